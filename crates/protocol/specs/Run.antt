-- A run of n houses with whole books, in any order of calls; and what is counted of it, copy by copy.
use Rattle.std.specs.Prelude.{◌≡◌, Bool, true, false, not, cond, ◌&&◌, List, [], ◌∷◌, ◌++◌, ℕ, zero, suc, ◌+◌, ◌≤◌, T, eqb, ltb}
use Rattle.std.proofs.Math.Option.{Option, none, some}
use Rattle.card.specs.Count.{count}
use Rattle.entry.specs.Entry.{Decl, Kind, SEND, ECHO, READY, Entry, fresh, outgoing, same_kind, PerEntry, same_entry}
use Rattle.entry.specs.Lists.{upd, at, change_at, each, tally}
use Rattle.protocol.specs.Steps.{Rules, Say, say, Out, must}
use Rattle.protocol.specs.Book.{Book, Call, publishing, receiving, sender_of, number_of, outcome, after, publication, noted}

-- what the honest books have in common, and which houses are honest
pub record Wall : Type 0 where
  pub rules : Rules
  pub numbers : ℕ
  pub honest : ℕ → Bool
  -- the recovery limit d
  pub limit : ℕ

-- how many houses there are
abbrev pub n : Wall → ℕ
n B = B.rules.n

-- an honest house: a number below n
abbrev pub is_honest : Wall → ℕ → Bool
is_honest B p = ltb p (n B) && B.honest p

-- a wrong house's number or a number not below n
abbrev pub is_wrong : Wall → ℕ → Bool
is_wrong B p = not (is_honest B p)

-- how many houses are honest
abbrev pub h : Wall → ℕ
h B = count (is_honest B) (n B)

-- one copy of a message that an honest house gave, and whether it was consumed
pub record Copy : Type 0 where
  pub from : ℕ
  pub to : ℕ
  pub kind : Kind
  pub sender : ℕ
  pub number : ℕ
  pub decl : Decl
  pub consumed : Bool

-- what calls gave, by house, sender and number: the books, the deliveries made, the publications accepted
pub record Given : Type 0 where
  pub books : ℕ → Book
  pub deliveries : ℕ → PerEntry (List Decl)
  pub publications : ℕ → PerEntry (List Decl)

-- a request for help, from a house that returned to one house
pub record Request : Type 0 where
  pub from : ℕ
  pub to : ℕ
  pub consumed : Bool

-- which houses are down; how often each returned; how often each helped each asker; and the requests sent
pub record Power : Type 0 where
  pub down : ℕ → Bool
  pub returned : ℕ → ℕ
  pub helped : ℕ → ℕ → ℕ
  pub requests : List Request

pub record State : Type 0 where
  pub gave : Given
  pub mail : List Copy
  pub power : Power

-- A run starts with fresh honest books.
abbrev pub start : State
start =
    record {
      gave = record { books = λ r j c. fresh; deliveries = λ r j c. []; publications = λ r j c. [] };
      mail = [];
      power = record { down = λ r. false; returned = λ r. 0; helped = λ r p. 0; requests = [] };
    }

-- an honest house that is up
abbrev pub is_up : Wall → State → ℕ → Bool
is_up B s r = is_honest B r && not (s.power.down r)

-- An honest house publishes (accepted or not); consumes, once, a copy an honest house sent to it; or receives anything under a wrong
-- house's number or a number not below n. It goes down; returns; consumes, once, a request that an honest house sent to it; or receives
-- a request under a wrong house's number or a number not below n. What arrives at a house that is down is lost.
pub data Step : Type 0 where
  publish : (house number : ℕ) → Decl → Step
  consume : (copy : ℕ) → Step
  wrong : (from house : ℕ) → Kind → (sender number : ℕ) → Decl → Step
  crash : (house : ℕ) → Step
  comeback : (house : ℕ) → Step
  help : (request : ℕ) → Step
  plead : (from house : ℕ) → Step

abbrev pub copy_to : (sender number house : ℕ) → Kind → Decl → ℕ → Copy
copy_to j c r k v q =
    record { from = r; to = q; kind = k; sender = j; number = c; decl = v; consumed = false }

-- It goes to all n houses, its own included; that is n copies.
abbrev pub to_all : (sender number house : ℕ) → Kind → Decl → ℕ → List Copy
to_all j c r k v zero = []
to_all j c r k v (suc q) = to_all j c r k v q ++ (copy_to j c r k v q ∷ [])

abbrev pub posted : (sender number house : ℕ) → Option Say → ℕ → List Copy
posted j c r none n = []
posted j c r (some (say k v)) n = to_all j c r k v n

-- a copy to each of n houses that passes Q
abbrev pub to_those : (ℕ → Bool) → (sender number house : ℕ) → Kind → Decl → ℕ → List Copy
to_those Q j c r k v n = each (λ q. cond (Q q) (copy_to j c r k v q ∷ []) []) n

abbrev pub again_kind : (ℕ → Bool) → (sender number house : ℕ) → Kind → Option Decl → ℕ → List Copy
again_kind Q j c r k none n = []
again_kind Q j c r k (some v) n = to_those Q j c r k v n

-- what house r gave on an entry, sent again
abbrev pub again_on : (ℕ → Bool) → (house n sender number : ℕ) → Entry → List Copy
again_on Q r n j c e =
    again_kind Q j c r SEND (outgoing SEND e) n
    ++ (again_kind Q j c r ECHO (outgoing ECHO e) n ++ again_kind Q j c r READY (outgoing READY e) n)

-- and on all entries of its book
abbrev pub again : (ℕ → Bool) → (house n numbers : ℕ) → Book → List Copy
again Q r n S b = each (λ c. each (λ j. again_on Q r n j c (b j c)) n) S

abbrev pub request_to : ℕ → ℕ → Request
request_to r q = record { from = r; to = q; consumed = false }

abbrev pub consumed_copy : Copy → Copy
consumed_copy m =
    record {
      from = m.from;
      to = m.to;
      kind = m.kind;
      sender = m.sender;
      number = m.number;
      decl = m.decl;
      consumed = true;
    }

abbrev pub consume_at : List Copy → ℕ → List Copy
consume_at l i = change_at consumed_copy l i

-- house r makes a call; `mail` is the mail as the call finds it
unfoldable pub called : Wall → ℕ → Call → State → List Copy → State
called B r a s mail =
    let g : Given = s.gave in
    let j : ℕ = sender_of r a in
    let c : ℕ = number_of a in
    let o : Out = outcome B.rules B.numbers r a (g.books r) in
    record {
      gave = record {
        books = upd g.books r (after B.rules B.numbers r a (g.books r));
        deliveries = noted g.deliveries r j c o.delivery;
        publications = noted g.publications r j c (publication a o.answer);
      };
      mail = mail ++ posted j c r o.message (n B);
      power = s.power;
    }

-- the call that consumes a copy
abbrev pub call_of : Copy → Call
call_of m = receiving m.from m.kind m.sender m.number m.decl

-- What arrives at a house that is down is lost: the copy is consumed and nothing else.
unfoldable pub arrives : Wall → ℕ → Copy → State → State
arrives B i m s =
    cond (s.power.down m.to)
    (record { gave = s.gave; mail = consume_at s.mail i; power = s.power })
    (called B m.to (call_of m) s (consume_at s.mail i))

unfoldable pub consumes : Wall → ℕ → Option Copy → State → State
unfolding arrives
consumes B i none s = s
consumes B i (some m) s = cond (is_honest B m.to && not m.consumed) (arrives B i m s) s

abbrev pub set_down : Power → ℕ → Bool → Power
set_down w r x =
    record { down = upd w.down r x; returned = w.returned; helped = w.helped; requests = w.requests }

-- On return a house sends again to all what it has sent and asks all for help.
unfoldable pub comes : Wall → ℕ → State → State
comes B r s =
    record {
      gave = s.gave;
      mail = s.mail ++ again (λ q. true) r (n B) B.numbers (s.gave.books r);
      power = record {
        down = upd s.power.down r false;
        returned = upd s.power.returned r (suc (s.power.returned r));
        helped = s.power.helped;
        requests = s.power.requests ++ each (λ q. request_to r q ∷ []) (n B);
      };
    }

-- 4: house number not in the book; 14: this asker was helped d times
unfoldable pub help_answer : (n d asker helped : ℕ) → ℕ
help_answer n d p k = must (ltb p n) 4 (must (ltb k d) 14 0)

-- one more help of house r for asker p
abbrev pub one_more : (ℕ → ℕ → ℕ) → ℕ → ℕ → ℕ → ℕ → ℕ
one_more f r p = upd f r (upd (f r) p (suc (f r p)))

-- A helper sends again its own messages, to the asker alone, at most d times for each asker.
unfoldable pub helps : Wall → (house asker : ℕ) → State → State
unfolding help_answer
helps B r p s =
    cond (eqb (help_answer (n B) B.limit p (s.power.helped r p)) 0)
    (record {
      gave = s.gave;
      mail = s.mail ++ again (eqb p) r (n B) B.numbers (s.gave.books r);
      power = record {
        down = s.power.down;
        returned = s.power.returned;
        helped = one_more s.power.helped r p;
        requests = s.power.requests;
      };
    })
    s

abbrev pub consumed_request : Request → Request
consumed_request m = record { from = m.from; to = m.to; consumed = true }

-- the request consumed
abbrev pub request_taken : ℕ → State → State
request_taken i s =
    record {
      gave = s.gave;
      mail = s.mail;
      power = record {
        down = s.power.down;
        returned = s.power.returned;
        helped = s.power.helped;
        requests = change_at consumed_request s.power.requests i;
      };
    }

unfoldable pub asked : Wall → ℕ → Option Request → State → State
unfolding helps
asked B i none s = s
asked B i (some m) s =
    cond (is_honest B m.to && not m.consumed)
    (cond (s.power.down m.to) (request_taken i s) (helps B m.to m.from (request_taken i s))) s

-- house r is up, and p is a wrong house's number or a number not below n
abbrev pub under_wrong : Wall → State → (from house : ℕ) → Bool
under_wrong B s p r = is_up B s r && is_wrong B p

-- A step that is none of these changes nothing.
unfoldable pub step : Wall → Step → State → State
unfolding comes helps asked
step B (publish r c v) s = cond (is_up B s r) (called B r (publishing c v) s s.mail) s
step B (consume i) s = consumes B i (at s.mail i) s
step B (wrong p r k j c v) s =
    cond (under_wrong B s p r) (called B r (receiving p k j c v) s s.mail) s
step B (crash r) s =
    cond (is_up B s r) (record { gave = s.gave; mail = s.mail; power = set_down s.power r true }) s
step B (comeback r) s = cond (is_honest B r && s.power.down r) (comes B r s) s
step B (help i) s = asked B i (at s.power.requests i) s
step B (plead p r) s = cond (under_wrong B s p r) (helps B r p s) s

unfoldable pub run : Wall → List Step → State → State
run B [] s = s
run B (a ∷ l) s = run B l (step B a s)

-- Sent messages are counted from the steps, copy by copy.
-- a copy on the entry of sender j and number c
abbrev pub on_it : ℕ → ℕ → Copy → Bool
on_it j c m = same_entry m.sender m.number j c

-- how many copies of the entry pass a test
abbrev pub copies_of : ℕ → ℕ → (Copy → Bool) → List Copy → ℕ
copies_of j c P l = tally (λ m. on_it j c m && P m) l

-- all of the entry's copies, and its READY copies
abbrev pub copies : ℕ → ℕ → State → ℕ
copies j c s = copies_of j c (λ m. true) s.mail

abbrev pub readies : ℕ → ℕ → State → ℕ
readies j c s = copies_of j c (λ m. same_kind READY m.kind) s.mail

-- between honest houses, a house's copy to itself included
abbrev pub is_between : Wall → Copy → Bool
is_between B m = is_honest B m.from && is_honest B m.to

abbrev pub between : Wall → ℕ → ℕ → State → ℕ
between B j c s = copies_of j c (is_between B) s.mail

abbrev pub consumed_between : Wall → ℕ → ℕ → State → ℕ
consumed_between B j c s = copies_of j c (λ m. is_between B m && m.consumed) s.mail

-- between houses that are up
abbrev pub up_copy : Wall → State → Copy → Bool
up_copy B s m = is_up B s m.from && is_up B s m.to

abbrev pub up_request : Wall → State → Request → Bool
up_request B s m = is_up B s m.from && is_up B s m.to

-- no copy of this entry and no request between up houses is left; other entries may be in flight
pub record Drained (B : Wall) (j c : ℕ) (s : State) : Type 0 where
  pub copies : copies_of j c (λ m. up_copy B s m && not m.consumed) s.mail ≡ 0
  pub requests : tally (λ m. up_request B s m && not m.consumed) s.power.requests ≡ 0

-- each honest house returned at most d times
abbrev pub Limited : Wall → Power → Type 0
Limited B w = (r : ℕ) → T (is_honest B r) → w.returned r ≤ B.limit
