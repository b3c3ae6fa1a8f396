-- The words of conditions and expressions, and the cells that hold them. Assumes nothing.
use Rattle.std.specs.Prelude.{ℕ, Bool, true, false, eqb, cond, Option, Some, None}
use Rattle.fields.specs.Field.{spelled}

abbrev pub t_word : ℕ
t_word = spelled "t"

abbrev pub and_word : ℕ
and_word = spelled "and"

abbrev pub not_word : ℕ
not_word = spelled "not"

abbrev pub eq_word : ℕ
eq_word = spelled "eq"

abbrev pub lt_word : ℕ
lt_word = spelled "lt"

abbrev pub k_word : ℕ
k_word = spelled "k"

abbrev pub v_word : ℕ
v_word = spelled "v"

abbrev pub add_word : ℕ
add_word = spelled "add"

abbrev pub sub_word : ℕ
sub_word = spelled "sub"

unfoldable pub pick : Bool → ℕ → ℕ → ℕ
pick true a b = a
pick false a b = b

-- the cell of no word
abbrev pub no_word : ℕ
no_word = 5

-- what the code answers: nothing for that cell
abbrev pub cell_of : ℕ → Option ℕ
cell_of c = cond (eqb c no_word) None (Some c)

-- "condition: `t`, or `and`,p,p, `not`,p, `eq`,e,e, `lt`,e,e"
unfoldable pub condition_cell : ℕ → ℕ
condition_cell w =
    pick (eqb w t_word) 0
    (pick (eqb w and_word) 1
    (pick (eqb w not_word) 2
    (pick (eqb w eq_word) 3
    (pick (eqb w lt_word) 4 no_word))))

-- "Expression e: `k`,number up to 1,000,000,000, `v`,secret, `add`,e,e, `sub`,e,e"
unfoldable pub expression_cell : ℕ → ℕ
expression_cell w =
    pick (eqb w k_word) 0
    (pick (eqb w v_word) 1
    (pick (eqb w add_word) 2
    (pick (eqb w sub_word) 3 no_word)))
