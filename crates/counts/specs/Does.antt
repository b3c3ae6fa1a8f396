-- What an event's method hands back, stated on the plain ledger. Assumes nothing.
use Rattle.std.specs.Prelude.{◌≡◌, ℕ, List}
use Rattle.bitml.specs.Ledger.{Event, renew, stipulated}
use Rattle.bitml.specs.Limits.{limited_refusal, limited_step}
use Rattle.tables.specs.Entries.{people}
use Rattle.tables.specs.SheetOf.{sheet_in}
use Rattle.duties.specs.Duties.{committed}
use Rattle.counts.specs.Book.{Book}
use Rattle.counts.specs.View.{view}
use Rattle.counts.specs.Fit.{Fit}

-- the same ledger with another answer
abbrev pub with_answer : Book → ℕ → Book
with_answer l n =
    record {
      answer = n;
      time = l.time;
      made = l.made;
      sets = l.sets;
      taken = l.taken;
      node = l.node;
      balance = l.balance;
      set = l.set;
      alive = l.alive;
      signed = l.signed;
      definition = l.definition;
      count = l.count;
      value = l.value;
      state = l.state;
      paid = l.paid;
    }

-- "Each event takes a ledger and gives the ledger after it": the answer is 0 where the event is taken, else the number that refuses it,
-- and "otherwise it is refused and the ledger stays the same", all of it but the answer
pub record Does (t : List ℕ) (l : Book) (e : Event) (r : Book) : Type 0 where
  pub answer : r.answer ≡ limited_refusal (sheet_in t) (view (people t) l) e
  pub plain : view (people t) r ≡ limited_step (sheet_in t) (view (people t) l) e
  pub same : (limited_refusal (sheet_in t) (view (people t) l) e ≡ 0 → ⊥) → r ≡ with_answer l (limited_refusal (sheet_in t) (view (people t) l) e)
  pub fit : Fit t r

-- "At stipulation", with values as they are handed over
pub record Begins (t vs : List ℕ) (r : Book) : Type 0 where
  pub answer : r.answer ≡ 0
  pub plain : view (people t) r ≡ stipulated (sheet_in t) (committed vs)
  pub fit : Fit t r

-- "`renew`,c,b, up to 8 values", with values as they are handed over
abbrev pub renewal : ℕ → ℕ → List ℕ → Event
renewal c b vs = renew c b (committed vs)
