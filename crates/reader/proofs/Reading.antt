-- What the reader needs of messages, under one name for each of its functions.
use Rattle.message.proofs.Form.{sized, known_kind}
use Rattle.message.proofs.RoundTrip.{lot_bytes}

pub ruleset message_rules = (sized, known_kind)

pub ruleset parts_rules = (sized, lot_bytes)
