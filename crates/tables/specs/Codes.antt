-- Names for the numbers by which a table tells actions, conditions and expressions apart. Assumes nothing.
use Rattle.std.specs.Prelude.{ℕ, zero, suc}

-- ---- "action: `w`,p .. `s`,n .. `r`, count .. `g`,d": the kind of a branch

abbrev pub withdraw_kind : ℕ
withdraw_kind = 0

abbrev pub split_kind : ℕ
split_kind = 1

abbrev pub reveal_kind : ℕ
reveal_kind = 2

abbrev pub renew_kind : ℕ
renew_kind = 3

-- one of four things by a kind; what is beyond them all is taken for the last
abbrev pub by_kind : {A : Type 0} → A → A → A → A → ℕ → A
by_kind w s r g zero = w
by_kind w s r g (suc zero) = s
by_kind w s r g (suc (suc zero)) = r
by_kind w s r g (suc (suc (suc n))) = g

-- ---- "condition: `t`, or `and`,p,p, `not`,p, `eq`,e,e, `lt`,e,e": the cell of a condition's word

abbrev pub t_cell : ℕ
t_cell = 0

abbrev pub and_cell : ℕ
and_cell = 1

abbrev pub not_cell : ℕ
not_cell = 2

abbrev pub eq_cell : ℕ
eq_cell = 3

abbrev pub lt_cell : ℕ
lt_cell = 4

abbrev pub by_condition : {A : Type 0} → A → A → A → A → A → ℕ → A
by_condition t a n e l zero = t
by_condition t a n e l (suc zero) = a
by_condition t a n e l (suc (suc zero)) = n
by_condition t a n e l (suc (suc (suc zero))) = e
by_condition t a n e l (suc (suc (suc (suc m)))) = l

-- ---- "Expression e: `k`,number .., `v`,secret, `add`,e,e, `sub`,e,e": the cell of an expression's word

abbrev pub k_cell : ℕ
k_cell = 0

abbrev pub v_cell : ℕ
v_cell = 1

abbrev pub add_cell : ℕ
add_cell = 2

abbrev pub sub_cell : ℕ
sub_cell = 3

abbrev pub by_expression : {A : Type 0} → A → A → A → A → ℕ → A
by_expression k v a s zero = k
by_expression k v a s (suc zero) = v
by_expression k v a s (suc (suc zero)) = a
by_expression k v a s (suc (suc (suc n))) = s
