pub mod Form
pub mod RoundTrip
pub mod Told
pub mod Numbers
pub mod Request
pub mod Trips
pub mod Claims
