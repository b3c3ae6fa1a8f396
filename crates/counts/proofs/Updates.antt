-- The ledger with some of its fields changed, as the methods do. Assumes nothing.
use Prim.Native.Nat.{ℕ, ◌+◌}
use mathlib.Core.List.{List}
use lib.ListN.{set}
use Rattle.counts.specs.Book.{Book}

abbrev pub with_time : Book → ℕ → Book
with_time l time' =
    record {
      answer = 0;
      time = time';
      made = l.made;
      sets = l.sets;
      taken = l.taken;
      node = l.node;
      balance = l.balance;
      set = l.set;
      alive = l.alive;
      signed = l.signed;
      definition = l.definition;
      count = l.count;
      value = l.value;
      state = l.state;
      paid = l.paid;
    }

abbrev pub with_signed : Book → List ℕ → Book
with_signed l signed' =
    record {
      answer = 0;
      time = l.time;
      made = l.made;
      sets = l.sets;
      taken = l.taken;
      node = l.node;
      balance = l.balance;
      set = l.set;
      alive = l.alive;
      signed = signed';
      definition = l.definition;
      count = l.count;
      value = l.value;
      state = l.state;
      paid = l.paid;
    }

abbrev pub with_state : Book → List ℕ → Book
with_state l state' =
    record {
      answer = 0;
      time = l.time;
      made = l.made;
      sets = l.sets;
      taken = l.taken;
      node = l.node;
      balance = l.balance;
      set = l.set;
      alive = l.alive;
      signed = l.signed;
      definition = l.definition;
      count = l.count;
      value = l.value;
      state = state';
      paid = l.paid;
    }

abbrev pub with_paid : Book → List ℕ → List ℕ → Book
with_paid l alive' paid' =
    record {
      answer = 0;
      time = l.time;
      made = l.made;
      sets = l.sets;
      taken = l.taken;
      node = l.node;
      balance = l.balance;
      set = l.set;
      alive = alive';
      signed = l.signed;
      definition = l.definition;
      count = l.count;
      value = l.value;
      state = l.state;
      paid = paid';
    }

-- contract c dies
abbrev pub dying : Book → ℕ → Book
dying l c =
    record {
      answer = 0;
      time = l.time;
      made = l.made;
      sets = l.sets;
      taken = l.taken;
      node = l.node;
      balance = l.balance;
      set = l.set;
      alive = set l.alive c 0;
      signed = l.signed;
      definition = l.definition;
      count = l.count;
      value = l.value;
      state = l.state;
      paid = l.paid;
    }

-- a contract is made
abbrev pub pushed : Book → ℕ → ℕ → ℕ → Book
pushed l n v i =
    record {
      answer = l.answer;
      time = l.time;
      made = l.made + 1;
      sets = l.sets;
      taken = l.taken;
      node = set l.node l.made n;
      balance = set l.balance l.made v;
      set = set l.set l.made i;
      alive = set l.alive l.made 1;
      signed = l.signed;
      definition = l.definition;
      count = l.count;
      value = l.value;
      state = l.state;
      paid = l.paid;
    }

-- contract c dies, and a set is made, of definition d with n secrets
abbrev pub reset : Book → ℕ → ℕ → ℕ → ℕ → Book
reset l c d n more =
    record {
      answer = 0;
      time = l.time;
      made = l.made;
      sets = l.sets + 1;
      taken = l.taken + more;
      node = l.node;
      balance = l.balance;
      set = l.set;
      alive = set l.alive c 0;
      signed = l.signed;
      definition = set l.definition l.sets d;
      count = set l.count l.sets n;
      value = l.value;
      state = l.state;
      paid = l.paid;
    }
