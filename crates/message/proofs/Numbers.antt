-- The numbers of the kinds are the kinds' numbers.
use mathlib.Core.Path.{◌≡◌, refl}
use mathlib.Core.Bool.{true}
use Rattle.message.specs.declared.Kind.{Kind}
use Rattle.message.specs.declared.Kind.TheVariants.{Send, Echo, Ready}
use Rattle.message.specs.Message.{is_kind, number_of}

pub known : (kind : Kind) → is_kind (number_of kind) ≡ true
unfolding is_kind
known Send = refl
known Echo = refl
known Ready = refl
