-- An exit by runs is one by trees. Assumes nothing.
use mathlib.Core.Logic.{◌↔◌}
use Prim.Native.Nat.{ℕ}
use mathlib.Core.List.{List, [], ◌++◌, append-nil}
use Rattle.bitml.specs.Lists.{All, nil, cons}
use Rattle.bitml.specs.Sheet.{Sheet, branch_at}
use Rattle.bitml.specs.Runs.{OwnStep, own_step, Run, done, more, Exit, ExitTree, leave, next}
use Rattle.bitml.proofs.Exits.{exit_all}
use Rattle.bitml.proofs.Lists.{all_head, all_append, all_left, all_right, all_of, all-mem}

module _ (s : Sheet) (p : ℕ) where
  -- Trees of all that a step leads to are trees of all that it came from
  step_trees : {xs ys : List ℕ} → OwnStep s p xs ys → All (ExitTree s p) ys → All (ExitTree s p) xs
  step_trees (own_step xs ys n b hb mine) a =
      let act = next s (branch_at s n b).action in
      let q = all_left (xs ++ act) ys a in
      all_append (all_left xs act q) (cons (leave b hb mine (λ m hm. all_of (all_right xs act q) hm)) (all_right (xs ++ act) ys a))

  run_trees : {xs ys : List ℕ} → Run (OwnStep s p) xs ys → All (ExitTree s p) ys → All (ExitTree s p) xs
  run_trees done a = a
  run_trees (more st r) a = step_trees st (run_trees r a)

  tree_exit : {n : ℕ} → ExitTree s p n → Exit s p n
  unfolding Exit
  tree_exit (leave {n = n} b hb mine f) =
      let act = next s (branch_at s n b).action in
      let r : Run (OwnStep s p) (act ++ []) [] = rw append-nil (exit_all s p act (all-mem _ act (λ m hm. tree_exit (f m hm)))) in
      more (own_step [] [] n b hb mine) r

  pub exit_is_tree : (n : ℕ) → Exit s p n ↔ ExitTree s p n
  unfolding Exit
  exit_is_tree n = (λ r. all_head (run_trees r nil), tree_exit)
