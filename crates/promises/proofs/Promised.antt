-- The two halves of the promises together: ranges of single entries, and how they hang together. Assumes nothing.
use Prim.Native.Nat.{ℕ, ◌<◌}
use native.Mathlib.Omega.{arith}
use lib.ListN.{length}
use Rattle.tables.specs.Entries.{Entries}
use Rattle.reading.specs.Promises.{NodePromise, BranchPromise, DefPromise, Promises}
use Rattle.ranges.specs.Ranged.{Ranged}
use Rattle.ranges.proofs.Reading.{sheet_ranged}
use Rattle.trees.specs.Shaped.{Shaped}
use Rattle.trees.proofs.Shapes.{reading_shaped}
use Rattle.promises.specs.Texts.{Promised}

module _ {K : ℕ} {E : Entries} (r : Ranged K E) (h : Shaped E) where
  node_kept : (n : ℕ) → n < length E.nodes → NodePromise E n
  node_kept n l =
      let a = r.node n l in
      let b = h.node n l in
      record { definition = a.definition; count = b.count; few = omega (arith, a.count, b.count); weight = a.weight; place = b.place }

  branch_kept : (b : ℕ) → b < length E.branches → BranchPromise K E b
  branch_kept b l =
      let a = r.branch b l in
      let c = h.branch b l in
      record {
        node = a.node;
        signers = a.signers;
        opens = a.opens;
        kind = a.kind;
        withdraw = λ k. record { payee = a.withdraw k; parts = c.withdraw k };
        split = λ k. record { parts = (c.split k).parts; some = omega (arith, (a.split k).0, (c.split k).parts); few = omega (arith, (a.split k).1, (c.split k).parts); weigh = (c.split k).weigh };
        reveal = λ k.
            let u = a.reveal k in
            let v = c.reveal k in
            record { parts = v.parts; contract = v.contract; parent = v.parent; some = u.some; few = u.few; listed = u.secrets.fits; secret = u.secrets.each; cond = u.cond };
        renew = λ k. record { definition = a.renew k; parts = c.renew k };
      }

  def_kept : (d : ℕ) → d < length E.defs → DefPromise K E d
  def_kept d l =
      let a = r.def d l in
      let c = h.def d l in
      record { root = c.root; own = c.own; top = c.top; secrets = a.few; listed = a.owners.fits; owner = a.owners.each; deposits = a.deposits }

  all_kept : Promises K E
  all_kept = record { limits = r.limits; node = node_kept; branch = branch_kept; def = def_kept; cell = r.cell; nesting = h.nesting }

pub promised : Promised
unfolding Promised
promised s K at E e = all_kept (sheet_ranged s K at E e) (reading_shaped s K at E e)
