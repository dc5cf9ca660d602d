-- What the code leaves and gives for a message is the protocol's step, entered in its entry's row; what it refuses is what recording
-- answers.
use Prim.Native.Nat.{ℕ, ◌<◌}
use mathlib.Core.Path.{◌≡◌, refl, sym, ap, ap₂, ◌∙◌, subst}
use mathlib.Core.Bool.{Bool, true, false, cond}
use mathlib.Core.List.{List}
use mathlib.Core.Option.{Option, none, some}
use Rattle.std.specs.Prelude.{Ok}
use Rattle.std.specs.Prelude as std
use Rattle.std.specs.Bool.{then_some}
use Rattle.message.specs.declared.Kind as kind
use Rattle.message.specs.Message as kinds
use Rattle.words.specs.Words.{Bytes, word_at}
use Rattle.lot.specs.Declaration.{declaration_at}
use Rattle.message.proofs.RoundTrip.{other_kind}
use Rattle.entry.specs.Entry.{Decl, Kind, SEND, ECHO, READY, heard}
use Rattle.protocol.specs.Steps.{Out, only_if, takes_send, takes, recording}
use Rattle.meaning.specs.Slot.{slot_at, put_slot}
use Rattle.meaning.specs.Layout.{heard_slot, entry_slot, echo_slot, ready_slot, ready_sent_slot, delivered_slot, place_from}
use Rattle.meaning.specs.Book.{n_of, numbers_of, season_of, header_of, look, place_in}
use Rattle.meaning.specs.Legal.{IsDecl, Has, Fits}
use Rattle.meaning.proofs.Row.{Rowed, rowed_bytes, rowed_taken}
use Rattle.meaning.proofs.Seen.{from_base, heard_seen}
use Rattle.calls.specs.declared.Outcome.{Outcome}
use Rattle.calls.specs.Entered.{result_of, handed, wired, letters, rules_by}
use Rattle.calls.specs.ByEntry.{entered_in}
use Rattle.calls.proofs.Entered.{letter_bytes, letter_wired}
use Rattle.layout.specs.Places.{Within, Begins}
use Rattle.layout.proofs.Begins.{begins}
use Rattle.reply.specs.declared.Step.{Step}
use Rattle.reply.specs.Handed.{sender_in, number_in, lot_in, with_kind, given_of, outcome_of}
use Rattle.marks.specs.declared.Marks.{Marks}
use Rattle.marks.specs.Marks.{echo_mark, ready_marks}
use Rattle.step.specs.Carries.{Carries}
use Rattle.step.proofs.Taken.{taking, heard_in_lem, n_one, has_one, base_one, echo_taken, ready_taken}

-- what recording answers at the slot is what it answers of what was heard
pub slot_checked : (b : List ℕ) (j c p : ℕ) (k : Kind) (v : Decl) → Has b j c → p < n_of b → (base at r : ℕ) → base ≡ place_in b j c 0
    → at ≡ place_from base (heard_slot (n_of b) k p) → r ≡ recording (slot_at b at) v → r ≡ recording (heard k p (look b j c)) v
slot_checked b j c p k v has hp base at r is ea er =
    let place = ea ∙ from_base b j c has base is (heard_slot (n_of b) k p) in
    er ∙ ap (λ (o : Option Decl). recording o v) (ap (slot_at b) place ∙ sym (heard_seen b j c has k p hp))

-- bytes with the entry's row as the step leaves it, with what is given, are the step entered
entered_row : (b : List ℕ) (j c : ℕ) → Fits b j c → (o : Out) (a : List ℕ) → Rowed b a j c o.entry
    → result_of (handed o.answer (letters (season_of b) j c o.message) o.delivery) a ≡ entered_in b j c o
unfolding entered_in
entered_row b j c fits o a r =
    λ i. result_of (handed o.answer (letters (season_of b) j c o.message) o.delivery) (rowed_bytes b j c fits a o.entry r i)

-- the message with another kind is the writer's bytes
module _ (b m : List ℕ) (base : ℕ) (C : Carries b m base) where
  abbrev lot : Decl
  lot = lot_in m

  pub kind_wired : (k : ℕ) → with_kind k m ≡ wired k (season_of b) (sender_in m) (number_in m) (declaration_at lot 0)
  kind_wired k =
      other_kind m C.comes.bytes C.comes.formed k
      ∙ letter_bytes k (word_at m 7) (sender_in m) (number_in m) lot C.plausible.decl
      ∙ ap (λ (x : ℕ). wired k x (sender_in m) (number_in m) (declaration_at lot 0)) C.comes.season

  given_wired : (g : Bool) (k : kind.Kind) → given_of (then_some g k) m
      ≡ only_if g (wired (kinds.number_of k) (season_of b) (sender_in m) (number_in m) (declaration_at lot 0))
  given_wired true k = ap some (kind_wired (kinds.number_of k))
  given_wired false k = refl

  pub outcome_wired : (g : Bool) (k : kind.Kind) (s : Step) → s.gives ≡ then_some g k → outcome_of (Ok s) m
      ≡ handed 0 (only_if g (wired (kinds.number_of k) (season_of b) (sender_in m) (number_in m) (declaration_at lot 0)))
      (only_if s.delivers lot)
  outcome_wired g k s e =
      ap (λ (o : Option (List ℕ)). handed 0 o (only_if s.delivers lot))
      (ap (λ (o : std.Option kind.Kind). given_of o m) e ∙ given_wired g k)

module _ (b : List ℕ) (bytes : Bytes b) (j c p : ℕ) (fits : Fits b j c) (hp : p < n_of b) (v : Decl) (dv : IsDecl v) where
  abbrev has : Has b j c
  has = fits.has

  -- a SEND recorded, and its ECHO given
  pub send_entered : (base : ℕ) (b₁ : List ℕ) (o : Outcome) → base ≡ place_in b j c 0 → b₁ ≡ put_slot b base v
      → o ≡ handed 0 (only_if true (wired 2 (season_of b) j c (declaration_at v 0))) (only_if false v)
      → result_of o b₁ ≡ entered_in b j c (takes (rules_by (header_of b)) SEND p v (look b j c))
  unfolding takes_send
  send_entered base b₁ o is e₁ eo =
      ap₂ result_of (eo ∙ ap (λ (x : Option (List ℕ)). handed 0 x none) (letter_wired (season_of b) j c true ECHO v))
      (e₁ ∙ ap (λ (x : ℕ). put_slot b x v) is)
      ∙ entered_row b j c fits (takes_send p v (look b j c)) (put_slot b (place_in b j c 0) v)
      (rowed_taken b j c fits bytes v dv SEND p hp false false)

  -- a voucher of the kind, at the place of its slot
  module _ (k : Kind) (base at : ℕ) (b₁ : List ℕ) (B : Begins b j c base) (ea : at ≡ place_from base (heard_slot (n_of b) k p))
      (e₁ : b₁ ≡ put_slot b at v) where
    from : (i : ℕ) → place_from base i ≡ place_in b j c i
    from = from_base b j c has base B.is

    abbrev b₁' : List ℕ
    b₁' = heard_in_lem b bytes j c p fits hp v dv k

    first : b₁ ≡ b₁'
    first = e₁ ∙ ap (λ (x : ℕ). put_slot b x v) (ea ∙ from (heard_slot (n_of b) k p))

    pub heard_n : n_of b₁ ≡ n_of b
    heard_n = ap n_of first ∙ n_one b bytes j c p fits hp v dv k

    pub heard_within : Within b₁ base
    heard_within =
        let is = B.is ∙ base_one b bytes j c p fits hp v dv k in
        let here = begins b₁' j c (n_of b₁') (numbers_of b₁') (entry_slot (n_of b₁') (numbers_of b₁') c j 0) base
        (has_one b bytes j c p fits hp v dv k) refl refl refl is B.within.small in
        subst (λ (x : List ℕ). Within x base) (sym first) here.within

    -- recorded, marked as g and d say, and a READY given as g says
    marked_entered : (sent done : ℕ) (g d : Bool) (b₂ b₃ : List ℕ) (o : Outcome) → sent ≡ place_from base (ready_sent_slot (n_of b))
        → done ≡ place_from base (delivered_slot (n_of b)) → b₂ ≡ cond g (put_slot b₁ sent v) b₁
        → b₃ ≡ cond d (put_slot b₂ done v) b₂
        → o ≡ handed 0 (only_if g (wired 3 (season_of b) j c (declaration_at v 0))) (only_if d v)
        → result_of o b₃ ≡ entered_in b j c (taking b bytes j c p fits hp v dv k g d)
    marked_entered sent done g d b₂ b₃ o et ed e₂ e₃ eo =
        let at_sent = et ∙ from (ready_sent_slot (n_of b)) in
        let at_done = ed ∙ from (delivered_slot (n_of b)) in
        let second = e₂ ∙ (λ i. cond g (put_slot (first i) (at_sent i) v) (first i)) in
        let third = e₃ ∙ (λ i. cond d (put_slot (second i) (at_done i) v) (second i)) in
        ap₂ result_of (eo ∙ ap (λ (x : Option (List ℕ)). handed 0 x (only_if d v)) (letter_wired (season_of b) j c g READY v)) third
        ∙ entered_row b j c fits (taking b bytes j c p fits hp v dv k g d) _ (rowed_taken b j c fits bytes v dv k p hp g d)

  module _ (base n at sent : ℕ) (b₁ b₂ : List ℕ) (o : Outcome) (B : Begins b j c base) (en : n ≡ n_of b)
      (et : sent ≡ place_from base (ready_sent_slot n)) where
    at_sent : sent ≡ place_from base (ready_sent_slot (n_of b))
    at_sent = et ∙ ap (λ (x : ℕ). place_from base (ready_sent_slot x)) en

    pub echo_entered : at ≡ place_from base (echo_slot p) → b₁ ≡ put_slot b at v → (g : Bool) → g ≡ echo_mark b₁ base v
        → b₂ ≡ cond g (put_slot b₁ sent v) b₁
        → o ≡ handed 0 (only_if g (wired 3 (season_of b) j c (declaration_at v 0))) (only_if false v)
        → result_of o b₂ ≡ entered_in b j c (takes (rules_by (header_of b)) ECHO p v (look b j c))
    echo_entered ea e₁ g eg e₂ eo =
        let mark = eg ∙ (λ i. echo_mark (first ECHO base at b₁ B ea e₁ i) (B.is i) v) in
        marked_entered ECHO base at b₁ B ea e₁ sent (place_from base (delivered_slot (n_of b))) g false b₂ b₂ o at_sent refl e₂
        refl eo
        ∙ ap (entered_in b j c)
        (ap (λ (x : Bool). taking b bytes j c p fits hp v dv ECHO x false) mark ∙ echo_taken b bytes j c p fits hp v dv)

    pub ready_entered : (done : ℕ) → done ≡ place_from base (delivered_slot n) → at ≡ place_from base (ready_slot n p)
        → b₁ ≡ put_slot b at v → (m : Marks) → m ≡ ready_marks b₁ base v → b₂ ≡ cond m.gives (put_slot b₁ sent v) b₁
        → (b₃ : List ℕ) → b₃ ≡ cond m.delivers (put_slot b₂ done v) b₂
        → o ≡ handed 0 (only_if m.gives (wired 3 (season_of b) j c (declaration_at v 0))) (only_if m.delivers v)
        → result_of o b₃ ≡ entered_in b j c (takes (rules_by (header_of b)) READY p v (look b j c))
    ready_entered done ed ea e₁ m em e₂ b₃ e₃ eo =
        let ea' = ea ∙ ap (λ (x : ℕ). place_from base (ready_slot x p)) en in
        let ed' = ed ∙ ap (λ (x : ℕ). place_from base (delivered_slot x)) en in
        let marks = em ∙ (λ i. ready_marks (first READY base at b₁ B ea' e₁ i) (B.is i) v) in
        marked_entered READY base at b₁ B ea' e₁ sent done m.gives m.delivers b₂ b₃ o at_sent ed' e₂ e₃ eo
        ∙ ap (entered_in b j c) (ready_taken b bytes j c p fits hp v dv m marks)
