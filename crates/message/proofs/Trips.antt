-- Both round trips of the very bytes that `gm_write` and `gm_read` exchange, and of a request's.
use Prim.Native.Nat.{ℕ}
use mathlib.Core.Path.{◌≡◌, refl, sym, ap, ◌∙◌}
use mathlib.Core.Bool.{Bool, true, false, true≢false}
use mathlib.Core.List.{List}
use native.Mathlib.Omega.{arith}
use lib.ListN.{length, replicate}
use Rattle.words.specs.Words.{Bytes}
use Rattle.lot.specs.Declaration.{declaration_at, bytes_of}
use Rattle.lot.proofs.Declared.{numbers_of_bytes, bytes_of_numbers}
use Rattle.message.specs.Message.{Five, Told, is_kind, wire, well_formed, five_at, read_as, read_of, request_wire, is_request, written_of}
use Rattle.message.proofs.RoundTrip.{read_of_wire, wire_of_read}
use Rattle.message.proofs.Request.{request_of_wire, wire_of_request, request_names, no_request, message_unasked}
use Rattle.message.specs.declared.ReadAnswer.{ReadAnswer}
use Rattle.message.specs.Trips.{writes, reads, writes_back, Trips}

module _ (kind season sender number : ℕ) (d : List ℕ) (k : is_kind kind ≡ true) (long : length d ≡ 20) (bytes : Bytes d) where
  abbrev m : Five
  m = record { kind = kind; season = season; sender = sender; number = number; declaration = declaration_at d 0 }

  read_undoes_write : reads (writes kind season sender number d).message
      ≡ record { answer = 0; kind = kind; season = season; sender = sender; number = number; declaration = d }
  unfolding written_of
  read_undoes_write =
      let r = read_of_wire m k in
      rw (k, message_unasked (wire m) m (ap (λ (t : Told). t.five) r), r)
      (λ i. record {
        answer = 0;
        kind = kind;
        season = season;
        sender = sender;
        number = number;
        declaration = bytes_of_numbers d long bytes i;
      })

-- what reading bytes finds: a request, a message, or neither
module _ (s : List ℕ) (bytes : Bytes s) where
  nine : (m : Five) → read_of s ≡ read_as m → m.kind ≡ 9 → ⊥
  unfolding is_kind
  nine m r k = true≢false (sym (wire_of_read s bytes m r).1 ∙ ap is_kind k)

  written_again : (m : Five) → read_of s ≡ read_as m
      → writes m.kind m.season m.sender m.number (bytes_of m.declaration) ≡ record { answer = 0; message = s }
  unfolding written_of
  written_again m r =
      let w = wire_of_read s bytes m r in
      rw w.1
      (λ i. record {
        answer = 0;
        message = (ap (λ x. wire (record { kind = m.kind; season = m.season; sender = m.sender; number = m.number; declaration = x }))
            (numbers_of_bytes m.declaration) ∙ sym w.0) i;
      })

  write_undoes_read : is_kind (reads s).kind ≡ true → writes_back (reads s) ≡ record { answer = 0; message = s }
  unfolding read_of is_kind
  write_undoes_read = go (is_request s) refl (well_formed s) refl
    where
      Goal : ReadAnswer → Type 0
      Goal a = is_kind a.kind ≡ true → writes_back a ≡ record { answer = 0; message = s }

      go : (t : Bool) → is_request s ≡ t → (u : Bool) → well_formed s ≡ u → Goal (reads s)
      go true e u f = rw (request_names s e) (λ k. absurd (true≢false (sym k)))
      go false e true f = rw (no_request s e, f) (λ k. written_again (five_at s) (rw f))
      go false e false f = rw (no_request s e, f) (λ k. absurd (true≢false (sym k)))

  request_undoes_read : (reads s).kind ≡ 9 → s ≡ request_wire (reads s).season
  unfolding read_of
  request_undoes_read = go (is_request s) refl (well_formed s) refl
    where
      Goal : ReadAnswer → Type 0
      Goal a = a.kind ≡ 9 → s ≡ request_wire a.season

      go : (t : Bool) → is_request s ≡ t → (u : Bool) → well_formed s ≡ u → Goal (reads s)
      go true e u f = rw (request_names s e) (λ k. wire_of_request s e bytes)
      go false e true f = rw (no_request s e, f) (λ k. absurd (nine (five_at s) (rw f) k))
      go false e false f = rw (no_request s e, f) (λ k. absurd (omega arith))

read_undoes_request : (season : ℕ) → reads (request_wire season)
    ≡ record { answer = 0; kind = 9; season = season; sender = 0; number = 0; declaration = replicate 20 0 }
read_undoes_request season = rw (request_of_wire season)

pub trips : Trips
trips =
    record {
      read_undoes_write = read_undoes_write;
      write_undoes_read = write_undoes_read;
      read_undoes_request = read_undoes_request;
      request_undoes_read = request_undoes_read;
    }
