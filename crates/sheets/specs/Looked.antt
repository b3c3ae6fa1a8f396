-- Entries as they are looked up, number by number. Assumes nothing.
use Rattle.std.specs.Prelude.{◌≡◌, ℕ}
use Rattle.tables.specs.Entries.{Entries}
use Rattle.tables.specs.SheetOf.{node_entry_at, branch_entry_at, def_entry_at, branch_count}
use Rattle.tables.specs.Kinds.{code}
use Rattle.sheets.specs.declared.Node.{Node}
use Rattle.sheets.specs.declared.Branch.{Branch}
use Rattle.sheets.specs.declared.Definition.{Definition}

-- "Each `c` is a node"; a node has as many branches as name it
pub record NodeIs (E : Entries) (n : ℕ) (r : Node) : Type 0 where
  pub definition : r.definition ≡ (node_entry_at E n).definition
  pub parent : r.parent ≡ (node_entry_at E n).parent
  pub weight : r.weight ≡ (node_entry_at E n).weight
  pub count : r.count ≡ branch_count E n

-- "branch: signers, opening time, an action"
pub record BranchIs (E : Entries) (b : ℕ) (r : Branch) : Type 0 where
  pub node : r.node ≡ (branch_entry_at E b).node
  pub signers : r.signers ≡ (branch_entry_at E b).signers
  pub opens : r.opens ≡ (branch_entry_at E b).opens
  pub kind : code r.kind ≡ (branch_entry_at E b).kind
  pub arg : r.arg ≡ (branch_entry_at E b).arg
  pub first : r.first ≡ (branch_entry_at E b).first
  pub count : r.count ≡ (branch_entry_at E b).count
  pub cond : r.cond ≡ (branch_entry_at E b).cond

-- "F lines `def`"
pub record DefIs (E : Entries) (d : ℕ) (r : Definition) : Type 0 where
  pub root : r.root ≡ (def_entry_at E d).root
  pub first : r.first ≡ (def_entry_at E d).first
  pub secrets : r.secrets ≡ (def_entry_at E d).secrets
