-- The ledger with what its cells hold, as one record. Assumes nothing.
use Rattle.std.specs.Prelude.{ℕ, List}
use Rattle.refusals.specs.Numbers.{number}
use Rattle.refusals.specs.declared.Refusal.{Refusal}
use Rattle.pages.specs.Pages.{Pages, nodes, balances, set_numbers, lives, definitions, secret_counts, states, values, payments, signatures}
use Rattle.counts.specs.declared.Counts.{Counts}

-- "State: time, contracts .., commitment sets .., paid amounts", with the answer to the last event, how many contracts and sets were made, and
-- the deposits taken
pub record Book : Type 0 where
  pub answer : ℕ
  pub time : ℕ
  pub made : ℕ
  pub sets : ℕ
  pub taken : ℕ
  pub node : List ℕ
  pub balance : List ℕ
  pub set : List ℕ
  pub alive : List ℕ
  pub signed : List ℕ
  pub definition : List ℕ
  pub count : List ℕ
  pub value : List ℕ
  pub state : List ℕ
  pub paid : List ℕ

-- The program's ledger beside its pages
abbrev pub book : Counts → Pages → Book
book l P =
    record {
      answer = l.answer;
      time = l.time;
      made = l.made;
      sets = l.sets;
      taken = l.taken;
      node = P nodes;
      balance = P balances;
      set = P set_numbers;
      alive = P lives;
      signed = P signatures;
      definition = P definitions;
      count = P secret_counts;
      value = P values;
      state = P states;
      paid = P payments;
    }

-- The same ledger, with the refusal of an event
abbrev pub refused_by : Counts → Refusal → Counts
refused_by l r = record { answer = number r; time = l.time; made = l.made; sets = l.sets; taken = l.taken }
