-- The ways out of wait. Assumes nothing.
use Prim.Native.Nat.{ℕ, ◌+◌, ◌≤◌, ◌<◌}
use mathlib.Core.Path.{◌≡◌, refl}
use mathlib.Core.List.{List}
use borrow.Author.Tests.{le-leb, lt-leb}
use Rattle.bitml.specs.Lists.{◌&◌, ask}
use Rattle.bitml.specs.Ledger.{wait, refusal, after}
use Rattle.bitml.specs.Limits.{within, deposits_taken}
use Rattle.tables.specs.Entries.{people}
use Rattle.tables.specs.SheetOf.{sheet_in}
use Rattle.sheets.specs.Ready.{Ready}
use Rattle.counts.specs.Book.{Book}
use Rattle.counts.specs.View.{view}
use Rattle.counts.specs.Fit.{Fit}
use Rattle.counts.specs.Does.{Does, with_answer}
use Rattle.counts.proofs.Updates.{with_time}
use Rattle.counts.proofs.Looking.{passed, takes}

module _ (t : List ℕ) (l : Book) (d : ℕ) (ok : Ready t) (f : Fit t l) (h : 1 ≤ d) (k : d ≤ 4294967295) where
  asked : refusal (sheet_in t) (view (people t) l) (wait d) ≡ 0
  unfolding refusal ask ◌&◌
  asked = rw (le-leb 1 d h, le-leb d 4294967295 k)

  pub wait_late : 4294967295 < l.time + d → Does t l (wait d) (with_answer l 19)
  unfolding within view
  wait_late x = passed t l (wait d) f asked (lt-leb (l.time + d) 4294967295 x)

  after_is : view (people t) (with_time l (l.time + d)) ≡ after (sheet_in t) (view (people t) l) (wait d)
  unfolding view after
  after_is = refl

  pub wait-taken : l.time + d ≤ 4294967295 → Does t l (wait d) (with_time l (l.time + d))
  unfolding within view deposits_taken
  wait-taken x = takes t l (wait d) (with_time l (l.time + d)) asked (le-leb (l.time + d) 4294967295 x) refl after_is
      (record {
        made = f.made;
        sets = f.sets;
        time = x;
        taken = f.taken;
        deposits = f.deposits;
        total = f.total;
        node = f.node;
        set = f.set;
        count = f.count;
        value = f.value;
        masks = f.masks;
        blank = f.blank;
        fresh = f.fresh;
        free = f.free;
        free-sets = f.free-sets;
        unpaid = f.unpaid;
        lengths = f.lengths;
      })
