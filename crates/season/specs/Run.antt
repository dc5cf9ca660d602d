-- A run of n houses at the bytes: each honest book is a byte list, each step a call of the counter, in any order; and what is counted of
-- it, copy by copy. The words for functions and lists are those of the run of entries: `upd f p x` is f with x at p, `at` the element at a
-- place, `change_at` the list with that element changed, `each` what a function gives at 0, 1 and so on, `tally` how many pass a test,
-- `noted` one more on the list of a house, sender and number.
use Rattle.std.specs.Prelude.{ℕ, suc, ◌^◌, ◌≤◌, ◌<◌, ◌≡◌, Bool, true, false, not, cond, ◌&&◌, List, [], ◌∷◌, ◌++◌, T, eqb, ltb}
use Rattle.std.proofs.Math.Option.{Option, none, some}
use Rattle.card.specs.Count.{count}
use Rattle.words.specs.Words.{Bytes}
use Rattle.message.specs.Message.{Five, read_of}
use Rattle.meaning.specs.Opening.{Opened, opened}
use Rattle.entry.specs.Lists.{upd, at, change_at, each, tally}
use Rattle.protocol.specs.Book.{noted}
use Rattle.calls.specs.declared.Outcome.{Outcome}
use Rattle.calls.specs.Entered.{Result}
use Rattle.calls.specs.Call.{published, received}
use Rattle.calls.specs.declared.Sent.{Sent}
use Rattle.calls.specs.Again.{returned, sent_of}

-- ---- the houses

-- what all honest houses open their books with, which houses are honest, and the buffer that each lends to opening
pub record Houses : Type 0 where
  pub n : ℕ
  pub numbers : ℕ
  -- f, how many honest houses may be down, and the recovery limit d
  pub down : ℕ
  pub limit : ℕ
  pub season : ℕ
  pub sheet : List ℕ
  pub honest : ℕ → Bool
  pub lent : ℕ → List ℕ

-- an honest house: a number below n
abbrev pub is_honest : Houses → ℕ → Bool
is_honest H p = ltb p H.n && H.honest p

-- a wrong house's number or a number not below n
abbrev pub is_wrong : Houses → ℕ → Bool
is_wrong H p = not (is_honest H p)

-- how many houses are honest
abbrev pub h : Houses → ℕ
h H = count (is_honest H) H.n

-- each opened with its own number
abbrev pub opens : Houses → ℕ → Opened
opens H r = opened (H.lent r) H.n H.numbers r H.down H.limit H.season H.sheet

-- opening answers 0 at each honest house; the season has 32 bits and the sheet is bytes, as the call takes them
pub record Open (H : Houses) : Type 0 where
  pub answer : (r : ℕ) → T (is_honest H r) → (opens H r).answer ≡ 0
  pub season : H.season < 2 ^ 32
  pub sheet : Bytes H.sheet

-- ---- what a run holds

-- one copy of a message that an honest house gave, and whether it was consumed
pub record Copy : Type 0 where
  pub from : ℕ
  pub to : ℕ
  pub message : List ℕ
  pub consumed : Bool

-- for each house, and each sender and number, a list of declarations' bytes
abbrev pub Noted : Type 0
Noted = (house sender number : ℕ) → List (List ℕ)

-- what calls gave: the books, the deliveries made, the publications accepted
pub record Given : Type 0 where
  pub books : ℕ → List ℕ
  pub deliveries : Noted
  pub publications : Noted

-- which houses are down; how often each returned; and the requests for help sent
pub record Power : Type 0 where
  pub down : ℕ → Bool
  pub returned : ℕ → ℕ
  pub requests : List Copy

pub record State : Type 0 where
  pub gave : Given
  pub mail : List Copy
  pub power : Power

-- A run starts with fresh honest books, each opened with its own number.
abbrev pub start : Houses → State
start H =
    record {
      gave = record { books = λ r. (opens H r).book; deliveries = λ r j c. []; publications = λ r j c. [] };
      mail = [];
      power = record { down = λ r. false; returned = λ r. 0; requests = [] };
    }

-- an honest house that is up
abbrev pub is_up : Houses → State → ℕ → Bool
is_up H s r = is_honest H r && not (s.power.down r)

-- ---- what a call gives

abbrev pub message_of : Outcome → Option (List ℕ)
message_of o = cond o.gives (some o.message) none

abbrev pub delivery_of : Outcome → Option (List ℕ)
delivery_of o = cond o.delivers (some o.declaration) none

-- the declaration of an accepted publication
abbrev pub publication_of : List ℕ → Outcome → Option (List ℕ)
publication_of v o = cond (eqb o.answer 0) (some v) none

-- the entry that a call names: for a message, what reading its bytes gives
pub data Named : Type 0 where
  nothing : Named
  entry : (sender number : ℕ) → Named

abbrev pub named_by : Option Five → Named
named_by none = nothing
named_by (some m) = entry m.sender m.number

-- one more declaration, or none, on house r's list for the entry
abbrev pub noting : Noted → ℕ → Named → Option (List ℕ) → Noted
noting f r nothing x = f
noting f r (entry j c) x = noted f r j c x

abbrev pub copy_to : (house : ℕ) → List ℕ → ℕ → Copy
copy_to r message q = record { from = r; to = q; message = message; consumed = false }

-- a copy to each of n houses that passes Q
abbrev pub to_those : (ℕ → Bool) → (house : ℕ) → List ℕ → ℕ → List Copy
to_those Q r message n = each (λ q. cond (Q q) (copy_to r message q ∷ []) []) n

-- It goes to all n houses, its own included; that is n copies.
abbrev pub to_all : (house : ℕ) → List ℕ → ℕ → List Copy
to_all r message n = to_those (λ q. true) r message n

abbrev pub posted : (house : ℕ) → Option (List ℕ) → ℕ → List Copy
posted r none n = []
posted r (some message) n = to_all r message n

-- what was sent of a kind on an entry, sent again
abbrev pub sent_again : (ℕ → Bool) → (house n : ℕ) → Sent → List Copy
sent_again Q r n o = cond o.gives (to_those Q r o.message n) []

-- kinds 1 to 3
abbrev pub again_on : (ℕ → Bool) → (house n : ℕ) → List ℕ → (sender number : ℕ) → List Copy
again_on Q r n b j c =
    sent_again Q r n (sent_of b 1 j c) ++ (sent_again Q r n (sent_of b 2 j c) ++ sent_again Q r n (sent_of b 3 j c))

-- and on all entries of a book
abbrev pub again : (ℕ → Bool) → (house n numbers : ℕ) → List ℕ → List Copy
again Q r n S b = each (λ c. each (λ j. again_on Q r n b j c) n) S

-- what receiving sends: a message to all; or, where it helps, to asker p alone what house r sent
abbrev pub sends : Houses → (house asker : ℕ) → Result → List Copy
sends H r p o =
    cond o.given.helps (again (eqb p) r H.n H.numbers o.book) (posted r (message_of o.given) H.n)

-- what is left of a call at house r; `mail` is the mail afterwards, `x` a publication that it accepted
unfoldable pub ended : ℕ → Named → Result → (x : Option (List ℕ)) → State → (mail : List Copy) → State
ended r e o x s mail =
    record {
      gave = record {
        books = upd s.gave.books r o.book;
        deliveries = noting s.gave.deliveries r e (delivery_of o.given);
        publications = noting s.gave.publications r e x;
      };
      mail = mail;
      power = s.power;
    }

-- ---- the steps

-- An honest house publishes (accepted or not); consumes, once, a copy an honest house sent to it; or receives any bytes, a request for
-- help among them, under a wrong house's number or a number not below n. It goes down; returns; or consumes, once, a request that an
-- honest house sent to it. A declaration and a message may be any list of numbers here, all bytes among them.
pub data Step : Type 0 where
  publish : (house number : ℕ) → (declaration : List ℕ) → Step
  consume : (copy : ℕ) → Step
  wrong : (from house : ℕ) → (message : List ℕ) → Step
  crash : (house : ℕ) → Step
  comeback : (house : ℕ) → Step
  help : (request : ℕ) → Step

unfoldable pub publishes : Houses → (house number : ℕ) → List ℕ → State → State
unfolding ended
publishes H r c v s =
    let o : Result = published (s.gave.books r) c v in
    ended r (entry r c) o (publication_of v o.given) s (s.mail ++ posted r (message_of o.given) H.n)

unfoldable pub receives : Houses → (house from : ℕ) → (message : List ℕ) → State → (mail : List Copy) → State
unfolding ended
receives H r p message s mail =
    let o : Result = received (s.gave.books r) p message in
    ended r (named_by (read_of message).five) o none s (mail ++ sends H r p o)

-- the same copy, consumed
abbrev pub consumed_copy : Copy → Copy
consumed_copy m = record { from = m.from; to = m.to; message = m.message; consumed = true }

-- the mail, or the requests, with that at a place consumed
abbrev pub consume_at : List Copy → ℕ → List Copy
consume_at l i = change_at consumed_copy l i

-- What arrives at a house that is down is lost: the copy is consumed and nothing else.
unfoldable pub arrives : Houses → ℕ → Copy → State → State
unfolding receives
arrives H i m s =
    cond (s.power.down m.to) (record { gave = s.gave; mail = consume_at s.mail i; power = s.power })
    (receives H m.to m.from m.message s (consume_at s.mail i))

unfoldable pub consumes : Houses → ℕ → Option Copy → State → State
unfolding arrives
consumes H i none s = s
consumes H i (some m) s = cond (is_honest H m.to && not m.consumed) (arrives H i m s) s

abbrev pub goes_down : ℕ → State → State
goes_down r s =
    record {
      gave = s.gave;
      mail = s.mail;
      power = record { down = upd s.power.down r true; returned = s.power.returned; requests = s.power.requests };
    }

-- On return a house sends again to all what it has sent and asks all for help.
unfoldable pub comes : Houses → ℕ → State → State
unfolding returned sent_of
comes H r s =
    record {
      gave = s.gave;
      mail = s.mail ++ again (λ q. true) r H.n H.numbers (s.gave.books r);
      power = record {
        down = upd s.power.down r false;
        returned = upd s.power.returned r (suc (s.power.returned r));
        requests = s.power.requests ++ to_all r (returned (s.gave.books r)).request H.n;
      };
    }

-- the request consumed
abbrev pub request_taken : ℕ → State → State
request_taken i s =
    record {
      gave = s.gave;
      mail = s.mail;
      power = record { down = s.power.down; returned = s.power.returned; requests = consume_at s.power.requests i };
    }

unfoldable pub asks : Houses → ℕ → Option Copy → State → State
unfolding receives
asks H i none s = s
asks H i (some m) s =
    cond (is_honest H m.to && not m.consumed)
    (cond (s.power.down m.to) (request_taken i s) (receives H m.to m.from m.message (request_taken i s) s.mail)) s

-- house r is up, and p is a wrong house's number or a number not below n
abbrev pub under_wrong : Houses → State → (from house : ℕ) → Bool
under_wrong H s p r = is_up H s r && is_wrong H p

-- A step that is none of these changes nothing.
unfoldable pub step : Houses → Step → State → State
unfolding publishes receives consumes comes asks
step H (publish r c v) s = cond (is_up H s r) (publishes H r c v s) s
step H (consume i) s = consumes H i (at s.mail i) s
step H (wrong p r message) s = cond (under_wrong H s p r) (receives H r p message s s.mail) s
step H (crash r) s = cond (is_up H s r) (goes_down r s) s
step H (comeback r) s = cond (is_honest H r && s.power.down r) (comes H r s) s
step H (help i) s = asks H i (at s.power.requests i) s

unfoldable pub run : Houses → List Step → State → State
unfolding step
run H [] s = s
run H (a ∷ l) s = run H l (step H a s)

-- ---- what is counted: sent messages, from the steps, copy by copy

-- what reading a message's bytes gives passes a test
abbrev pub passing : (Five → Bool) → Option Five → Bool
passing P none = false
passing P (some m) = P m

abbrev pub reads : (Five → Bool) → Copy → Bool
reads P m = passing P (read_of m.message).five

-- a copy on the entry of sender j and number c
abbrev pub on_it : ℕ → ℕ → Copy → Bool
on_it j c m = reads (λ x. eqb j x.sender && eqb c x.number) m

-- a READY is kind 3
abbrev pub is_ready : Copy → Bool
is_ready m = reads (λ x. eqb x.kind 3) m

-- how many copies of the entry pass a test
abbrev pub copies_of : ℕ → ℕ → (Copy → Bool) → State → ℕ
copies_of j c P s = tally (λ m. on_it j c m && P m) s.mail

-- all of the entry's copies, and its READY copies
abbrev pub copies : ℕ → ℕ → State → ℕ
copies j c s = copies_of j c (λ m. true) s

abbrev pub readies : ℕ → ℕ → State → ℕ
readies j c s = copies_of j c is_ready s

-- between honest houses, a house's copy to itself included
abbrev pub is_between : Houses → Copy → Bool
is_between H m = is_honest H m.from && is_honest H m.to

abbrev pub between : Houses → ℕ → ℕ → State → ℕ
between H j c s = copies_of j c (is_between H) s

abbrev pub consumed_between : Houses → ℕ → ℕ → State → ℕ
consumed_between H j c s = copies_of j c (λ m. is_between H m && m.consumed) s

-- between houses that are up: a copy, or a request
abbrev pub up_between : Houses → State → Copy → Bool
up_between H s m = is_up H s m.from && is_up H s m.to

-- no copy of this entry and no request between up houses is left; other entries may be in flight
pub record Drained (H : Houses) (j c : ℕ) (s : State) : Type 0 where
  pub copies : copies_of j c (λ m. up_between H s m && not m.consumed) s ≡ 0
  pub requests : tally (λ m. up_between H s m && not m.consumed) s.power.requests ≡ 0

-- each honest house returned at most d times
abbrev pub Limited : Houses → State → Type 0
Limited H s = (r : ℕ) → T (is_honest H r) → s.power.returned r ≤ H.limit

-- the honest houses that are down
abbrev pub downs : Houses → State → ℕ
downs H s = count (λ p. is_honest H p && s.power.down p) H.n
