-- The steps as the code makes them: from what each call on the way gave to what the step gives and leaves.
use Prim.Native.Nat.{ℕ, ◌<◌}
use mathlib.Core.Path.{◌≡◌, refl, sym, ap, ◌∙◌, subst}
use mathlib.Core.Bool.{Bool, true, false, cond}
use mathlib.Core.List.{List}
use borrow.Author.Tests.{eq-eqb}
use Rattle.words.specs.Words.{Bytes}
use Rattle.entry.specs.Entry.{Decl, Kind, SEND, ECHO, READY, heard}
use Rattle.protocol.specs.Steps.{takes, may, recording}
use Rattle.meaning.specs.Slot.{slot_at, put_slot}
use Rattle.meaning.specs.Layout.{heard_slot, send_slot, echo_slot, ready_slot, ready_sent_slot, delivered_slot, place_from}
use Rattle.meaning.specs.Book.{n_of, header_of, look}
use Rattle.meaning.specs.Legal.{IsDecl, Fits}
use Rattle.meaning.proofs.Seen.{from_base}
use mathlib.Core.Option.{none}
use Rattle.std.specs.Prelude.{Ok, Some, Option}
use Rattle.std.specs.Bool.{then_some}
use Rattle.message.specs.declared.Kind as kind
use Rattle.message.specs.declared.Kind.TheVariants.{Echo, Ready}
use Rattle.calls.specs.Entered.{handed, result_of, rules_by}
use Rattle.calls.specs.ByEntry.{entered_in, called_in}
use Rattle.calls.proofs.Checking.{recorded_refused, message_taken}
use Rattle.layout.specs.declared.EntryAt.{EntryAt}
use Rattle.layout.specs.Places.{Lies}
use Rattle.reply.specs.declared.Step.{Step}
use Rattle.reply.specs.Handed.{sender_in, number_in, lot_in, outcome_of}
use Rattle.marks.specs.declared.Marks.{Marks}
use Rattle.marks.specs.Marks.{echo_mark, ready_marks}
use Rattle.step.specs.Carries.{Carries, asked_by}
use Rattle.step.proofs.Entered.{slot_checked, outcome_wired, send_entered, heard_n, heard_within, echo_entered, ready_entered}

-- what is carried at a place is carried at the same place of the entry that was read off the book
pub carries_along : (b m : List ℕ) (base at : ℕ) → at ≡ base → Carries b m base → Carries b m at
carries_along b m base at e C = subst (λ (x : ℕ). Carries b m x) (sym e) C

module _ (b m : List ℕ) (base : ℕ) (C : Carries b m base) where
  abbrev j : ℕ
  j = sender_in m

  abbrev c : ℕ
  c = number_in m

  abbrev v : Decl
  v = lot_in m

  abbrev fits : Fits b j c
  fits = C.fits

  abbrev dv : IsDecl v
  dv = C.plausible.decl

  -- the slot of a kind and a house, and what recording answers there of the declaration as it was copied
  module _ (k : Kind) (p : ℕ) (hp : p < n_of b) (from : may j k p ≡ true) (at r : ℕ) (d : Decl)
      (ea : at ≡ place_from base (heard_slot (n_of b) k p)) (ed : d ≡ v) (er : r ≡ recording (slot_at b at) d) where
    checked : r ≡ recording (heard k p (look b j c)) v
    checked = slot_checked b j c p k v fits.has hp base at r C.begins.is ea (er ∙ ap (recording (slot_at b at)) ed)

    -- 7 or 13
    refused_heard : (r ≡ 0 → ⊥) → result_of (handed r none none) b ≡ called_in b (asked_by p k m)
    refused_heard f = recorded_refused b j c p k v fits.has hp C.plausible.ok from r checked f (handed r none none) refl

    taken_heard : r ≡ 0 → entered_in b j c (takes (rules_by (header_of b)) k p v (look b j c)) ≡ called_in b (asked_by p k m)
    taken_heard z = message_taken b j c p k v fits.has hp C.plausible.ok from (sym checked ∙ z)

  -- ---- a SEND

  module _ (at r : ℕ) (d : Decl) (ea : at ≡ place_from base send_slot) (ed : d ≡ v) (er : r ≡ recording (slot_at b at) d) where
    own_send : may j SEND j ≡ true
    own_send = eq-eqb j j refl

    pub send_refused : (r ≡ 0 → ⊥) → result_of (handed r none none) b ≡ called_in b (asked_by j SEND m)
    send_refused = refused_heard SEND j fits.has.sender own_send at r d ea ed er

    pub send_heard : Bytes b → r ≡ 0 → (d₁ : Decl) → d₁ ≡ v → (b₁ : List ℕ) → b₁ ≡ put_slot b at d₁
        → result_of (outcome_of (Ok (record { gives = Some Echo; delivers = false })) m) b₁ ≡ called_in b (asked_by j SEND m)
    send_heard bytes z d₁ e₁ b₁ q =
        let s : Step = record { gives = Some Echo; delivers = false } in
        send_entered b bytes j c j fits fits.has.sender v dv at b₁ (outcome_of (Ok s) m)
        (ea ∙ from_base b j c fits.has base C.begins.is send_slot) (q ∙ ap (put_slot b at) e₁) (outcome_wired b m base C true Echo s refl)
        ∙ taken_heard SEND j fits.has.sender own_send at r d ea ed er z

  -- ---- a voucher

  module _ (p : ℕ) (hp : p < n_of b) (n at r : ℕ) (d : Decl) (en : n ≡ n_of b) (ed : d ≡ v) (er : r ≡ recording (slot_at b at) d) where
    pub echo_refused : at ≡ place_from base (echo_slot p) → (r ≡ 0 → ⊥)
        → result_of (handed r none none) b ≡ called_in b (asked_by p ECHO m)
    echo_refused ea = refused_heard ECHO p hp refl at r d ea ed er

    ready_place : at ≡ place_from base (ready_slot n p) → at ≡ place_from base (ready_slot (n_of b) p)
    ready_place ea = ea ∙ ap (λ (x : ℕ). place_from base (ready_slot x p)) en

    pub ready_refused : at ≡ place_from base (ready_slot n p) → (r ≡ 0 → ⊥)
        → result_of (handed r none none) b ≡ called_in b (asked_by p READY m)
    ready_refused ea = refused_heard READY p hp refl at r d (ready_place ea) ed er

    module _ (bytes : Bytes b) (d₁ : Decl) (e₁ : d₁ ≡ v) (b₁ : List ℕ) (q₁ : b₁ ≡ put_slot b at d₁) where
      stored : b₁ ≡ put_slot b at v
      stored = q₁ ∙ ap (put_slot b at) e₁

      -- the entry as the code holds it lies in the bytes with the voucher recorded, as it lay before
      pub echo_lies : at ≡ place_from base (echo_slot p) → (e : EntryAt) → e.base ≡ base → e.n ≡ n_of b → Lies b₁ e
      echo_lies ea e eb em =
          record {
            n = em ∙ sym (heard_n b bytes j c p fits hp v dv ECHO base at b₁ C.begins ea stored);
            within = rw eb (heard_within b bytes j c p fits hp v dv ECHO base at b₁ C.begins ea stored);
          }

      pub ready_lies : at ≡ place_from base (ready_slot n p) → (e : EntryAt) → e.base ≡ base → e.n ≡ n_of b → Lies b₁ e
      ready_lies ea e eb em =
          record {
            n = em ∙ sym (heard_n b bytes j c p fits hp v dv READY base at b₁ C.begins (ready_place ea) stored);
            within = rw eb (heard_within b bytes j c p fits hp v dv READY base at b₁ C.begins (ready_place ea) stored);
          }

      module _ (sent : ℕ) (et : sent ≡ place_from base (ready_sent_slot n)) (d₂ d₃ : Decl) (e₂ : d₂ ≡ v) (e₃ : d₃ ≡ v) (b₂ : List ℕ)
          (z : r ≡ 0) where
        pub echo_heard : at ≡ place_from base (echo_slot p) → (g : Bool) → g ≡ echo_mark b₁ base d₂ → b₂ ≡ cond g (put_slot b₁ sent d₃) b₁
            → (o : Option kind.Kind) → o ≡ then_some g Ready
            → result_of (outcome_of (Ok (record { gives = o; delivers = false })) m) b₂ ≡ called_in b (asked_by p ECHO m)
        echo_heard ea g eg q₂ o given =
            let s : Step = record { gives = o; delivers = false } in
            echo_entered b bytes j c p fits hp v dv base n at sent b₁ b₂ (outcome_of (Ok s) m) C.begins en et ea stored g
            (eg ∙ ap (echo_mark b₁ base) e₂) (q₂ ∙ ap (λ (x : Decl). cond g (put_slot b₁ sent x) b₁) e₃)
            (outcome_wired b m base C g Ready s given)
            ∙ taken_heard ECHO p hp refl at r d ea ed er z

        pub ready_heard : at ≡ place_from base (ready_slot n p) → (g : Marks) → g ≡ ready_marks b₁ base d₂
            → b₂ ≡ cond g.gives (put_slot b₁ sent d₃) b₁
            → (done : ℕ) → done ≡ place_from base (delivered_slot n) → (d₄ : Decl) → d₄ ≡ v
            → (b₃ : List ℕ) → b₃ ≡ cond g.delivers (put_slot b₂ done d₄) b₂
            → (o : Option kind.Kind) → o ≡ then_some g.gives Ready
            → result_of (outcome_of (Ok (record { gives = o; delivers = g.delivers })) m) b₃ ≡ called_in b (asked_by p READY m)
        ready_heard ea g eg q₂ done eo d₄ e₄ b₃ q₃ o given =
            let s : Step = record { gives = o; delivers = g.delivers } in
            ready_entered b bytes j c p fits hp v dv base n at sent b₁ b₂ (outcome_of (Ok s) m) C.begins en et done eo ea stored g
            (eg ∙ ap (ready_marks b₁ base) e₂) (q₂ ∙ ap (λ (x : Decl). cond g.gives (put_slot b₁ sent x) b₁) e₃) b₃
            (q₃ ∙ ap (λ (x : Decl). cond g.delivers (put_slot b₂ done x) b₂) e₄)
            (outcome_wired b m base C g.gives Ready s given)
            ∙ taken_heard READY p hp refl at r d (ready_place ea) ed er z
