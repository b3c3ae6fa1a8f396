use Rattle.sheets.proofs.Indexing.{keys_branches, keys_nodes, indexed, rest-length}
use lib.ListN.{length, take, drop, length-drop, length-append}
use lib.Seq.{length-take-le}
use mathlib.Core.Path.{◌≡◌, sym, ◌∙◌}
use native.Mathlib.Omega.{arith}
use Prim.Native.Nat.{◌-◌}
use mathlib.Core.List.{◌++◌}
use Rattle.sheets.specs.Ready.{parts_from}
use Rattle.sheets.proofs.Table.index.Goals as goal

pub slice_bounds-bucket-end-2 : goal.slice_bounds-bucket-end-2
slice_bounds-bucket-end-2 c = sym (length-take-le parts_from c.args.room.now (omega arith))

pub bucket-requires : goal.bucket-requires
bucket-requires c = record { keys = keys_branches _ c.args.self.ready _ c.branch_total.ensures; n_in_bounds = omega (arith, length-take-le parts_from c.args.room.now (omega arith), c.args.self.ready.promises.limits.branches, c.branch_total.ensures) }

pub bucket-requires-2 : goal.bucket-requires-2
bucket-requires-2 c = let x = c.args.room.now in
    let F = c.bucket.new.x in
    let y = F ++ drop parts_from x in record { keys = keys_nodes _ c.args.self.ready _ c.node_total.ensures; n_in_bounds = omega (arith, rest-length y parts_from, length-append F (drop parts_from x), length-drop parts_from x, length-take-le parts_from x (omega arith), c.args.self.ready.promises.limits.nodes, c.node_total.ensures) }

pub invariant_of-result : goal.invariant_of-result
invariant_of-result c = let x = c.args.room.now in
    let F = c.bucket.new.x in
    let y = F ++ drop parts_from x in
    let G = c.bucket-2.new.x in
    let e : length F ≡ length (take parts_from x) = c.bucket.auto.x in
    record {
      indexed = indexed _ c.args.self.ready _ _ F (drop parts_from x) G _ c.branch_total.ensures c.node_total.ensures (e ∙ length-take-le parts_from x (omega arith))
          (omega (arith, rest-length y parts_from, length-append F (drop parts_from x), length-drop parts_from x, length-take-le parts_from x (omega arith), c.requires.index_long_in_bounds)) c.bucket.ensures c.bucket-2.ensures;
    }
