-- What one entry sees of a call: its own change where the call names it, and nothing but other entries' copies where not.
use mathlib.Core.Path.{◌≡◌, refl, subst, ◌∙◌, fun_ext}
use mathlib.Core.Bool.{Bool, true, false, cond, ◌&&◌}
use mathlib.Core.Option.{Option, none, some}
use mathlib.Core.List.{List, ◌++◌}
use Prim.Native.Nat.{ℕ}
use lib.Dec.{T, eqb, eqb→eq}
use Rattle.card.proofs.Counting.{count_none}
use Rattle.entry.specs.Entry.{Decl, PerEntry, same_entry, put_at}
use Rattle.entry.specs.Lists.{upd, push}
use Rattle.protocol.specs.Steps.{Say, say, Out}
use Rattle.protocol.specs.Book.{Call, in_book, sender_of, number_of, outcome, after, publication, noted}
use Rattle.protocol.specs.Run.{n, Wall, Copy, State, posted, called, on_it, copies_of}
use Rattle.entry.proofs.Basics.{T_of, true_of, and_l, and_r, upd_all, entry_refl}
use Rattle.protocol.proofs.Calls.{Done, outcome_done, outcome_booked}
use Rattle.protocol.proofs.Mail.{tally_to_all}
use Rattle.protocol.proofs.Invariant.{View, acted}

abbrev pub view : ℕ → ℕ → State → View
view j c s =
    record {
      house = λ r. s.gave.books r j c;
      deliveries = λ r. s.gave.deliveries r j c;
      publications = λ r. s.gave.publications r j c;
      mail = s.mail;
      power = s.power;
    }

-- the same with another mail
abbrev pub with_mail : View → List Copy → View
with_mail u l = record { house = u.house; deliveries = u.deliveries; publications = u.publications; mail = l; power = u.power }

-- house r's table with x at sender j and number c
abbrev put : {A : Type 0} → (ℕ → PerEntry A) → ℕ → ℕ → ℕ → A → ℕ → PerEntry A
put f r j c x = upd f r (put_at (f r) j c x)

put_here : {A : Type 0} (f : ℕ → PerEntry A) (r j c : ℕ) (x : A) → ◌≡◌ {A = ℕ → A} (λ q. put f r j c x q j c) (upd (λ q. f q j c) r x)
put_here {A = A} f r j c x = fun_ext λ q. go q (eqb q r)
  where
    go : (q : ℕ) (b : Bool) → cond b (put_at (f r) j c x) (f q) j c ≡ cond b x (f q j c)
    go q true = rw (true_of (same_entry j c j c) (entry_refl j c))
    go q false = refl

put_elsewhere : {A : Type 0} (f : ℕ → PerEntry A) (r j₂ c₂ : ℕ) (x : A) (j c : ℕ) → same_entry j₂ c₂ j c ≡ false
    → ◌≡◌ {A = ℕ → A} (λ q. put f r j₂ c₂ x q j c) (λ q. f q j c)
put_elsewhere {A = A} f r j₂ c₂ x j c e = fun_ext λ q. go q (eqb q r) refl
  where
    go : (q : ℕ) (b : Bool) → eqb q r ≡ b → cond b (put_at (f r) j₂ c₂ x) (f q) j c ≡ f q j c
    go q true t = rw (e, eqb→eq q r (T_of t))
    go q false t = refl

pub posted_elsewhere : (j₂ c₂ r : ℕ) (x : Option Say) (n j c : ℕ) (P : Copy → Bool) → same_entry j₂ c₂ j c ≡ false
    → copies_of j c P (posted j₂ c₂ r x n) ≡ 0
posted_elsewhere j₂ c₂ r none n j c P e = refl
posted_elsewhere j₂ c₂ r (some (say k v)) n j c P e =
    tally_to_all (λ m. on_it j c m && P m) j₂ c₂ r k v n ∙ count_none _ n (λ q h. rw e)

-- noting nothing changes nothing
pub noted_none : (f : ℕ → PerEntry (List Decl)) (r j c : ℕ) → noted f r j c none ≡ f
noted_none f r j c = fun_ext (λ q. upd_all (λ q x. x ≡ f q) f r (put_at (f r) j c (f r j c)) same (λ q. refl) q)
  where
    same : put_at (f r) j c (f r j c) ≡ f r
    same = fun_ext (λ j₂. fun_ext (λ c₂. go j₂ c₂ (same_entry j c j₂ c₂) refl))
      where
        go : (j₂ c₂ : ℕ) (t : Bool) → same_entry j c j₂ c₂ ≡ t → cond t (f r j c) (f r j₂ c₂) ≡ f r j₂ c₂
        go j₂ c₂ true q =
            rw (eqb→eq j₂ j (and_l (eqb j₂ j) (eqb c₂ c) (T_of q)), eqb→eq c₂ c (and_r (eqb j₂ j) (eqb c₂ c) (T_of q)))
        go j₂ c₂ false q = refl

module _ (B : Wall) (r : ℕ) (a : Call) (s : State) where
  abbrev pub out : Out
  out = outcome B.rules B.numbers r a (s.gave.books r)

  abbrev j : ℕ
  j = sender_of r a

  abbrev c : ℕ
  c = number_of a

  view_here : (mail : List Copy) → view j c (called B r a s mail) ≡ acted B j c (view j c s) r a out mail
  unfolding called after
  view_here mail =
      λ i. record {
        house = put_here s.gave.books r j c out.entry i;
        deliveries = put_here s.gave.deliveries r j c (push out.delivery (s.gave.deliveries r j c)) i;
        publications = put_here s.gave.publications r j c (push (publication a out.answer) (s.gave.publications r j c)) i;
        mail = mail ++ posted j c r out.message (n B);
        power = s.power;
      }

  pub view_elsewhere : (mail : List Copy) (j₂ c₂ : ℕ) → same_entry j c j₂ c₂ ≡ false
      → view j₂ c₂ (called B r a s mail) ≡ with_mail (view j₂ c₂ s) (mail ++ posted j c r out.message (n B))
  unfolding called after
  view_elsewhere mail j₂ c₂ e =
      λ i. record {
        house = put_elsewhere s.gave.books r j c out.entry j₂ c₂ e i;
        deliveries = put_elsewhere s.gave.deliveries r j c (push out.delivery (s.gave.deliveries r j c)) j₂ c₂ e i;
        publications = put_elsewhere s.gave.publications r j c
            (push (publication a out.answer) (s.gave.publications r j c)) j₂ c₂ e i;
        mail = mail ++ posted j c r out.message (n B);
        power = s.power;
      }

  -- what the call shows of the entry that it names
  pub record Named (j c : ℕ) : Type 0 where
    pub sender : sender_of r a ≡ j
    pub number : number_of a ≡ c
    pub done : Done B.rules j r a (s.gave.books r j c) out
    pub booked : (m : Say) → out.message ≡ some m → T (in_book B.rules B.numbers j c)
    pub seen : (mail : List Copy) → view j c (called B r a s mail) ≡ acted B j c (view j c s) r a out mail

  pub named : (j₂ c₂ : ℕ) → j ≡ j₂ → c ≡ c₂ → Named j₂ c₂
  named j₂ c₂ e e₂ =
      subst (λ (x : ℕ). Named x c₂) e
      (subst (λ (y : ℕ). Named j y) e₂
      (record {
        sender = refl;
        number = refl;
        done = outcome_done B.rules B.numbers r a (s.gave.books r);
        booked = outcome_booked B.rules B.numbers r a (s.gave.books r);
        seen = view_here;
      }))
