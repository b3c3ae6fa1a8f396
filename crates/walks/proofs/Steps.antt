-- Steps for walks by hand that the kit does not have: a local array of numbers that is lent, shared and taken back; several clauses shown or asked at once; a large constant; a local whose number is a variable; all locals freed at once. They say nothing of any crate.
--     ty_rep, wt_rep     an array of k zeros has its type
--     lend_in      an array of k zeros in a local  ⊢  k zeros side by side, which `lends_slice` lends
--     share_in     what `slice_back` gives of k numbers  ⊢  the whole share of them, which `lends_shr_slice` shares
--     take_out     the whole share of k numbers  ⊢  room for the array
--     says_both, says_all     `says` for a contract of two and of three clauses.        needs_both     `needs` for two `requires`
--     big          `lit` for a large constant, of which the bound is shown
--     found        `from` for a local of which the type is known, though its number may be a variable
--     skips_to     an arm that does nothing, where b runs after the branch
--     unmove       `move` undone, for positions that fall.        free_all     all locals are freed, of which each stands as room in the context, in their order (`Rooms`)
-- Assumes `Logic`.
use mathlib.Core.Path.{◌≡◌, refl, sym, subst}
use Prim.Native.Nat.{ℕ, zero, suc}
use mathlib.Core.List.{List, [], ◌∷◌}
use lib.Dec.{T as Holds, lit<}
use lib.ListN.{replicate}
use seplogic.Ra.Ura.{Ura}
use base.Fraction.{full_share}
use mir.Syntax.{Ty, Width, w64, ty_int, ty_array, int_big, Step as PStep, place, Body, skip}
use mir.Val.{Val, WT, has_ty, vint, Fits}
use base.Logic.{SProp, ent, sep, id⊢, via, assoc∗, assoc', mono_r, guard_i}
use base.Fml.{Fml, fsep, fat, froom, fdies}
use prog.Wp.{Heap, Env, Spot, spot_of, walk, Calls, Loops, Wp, after_seq, at_return}
use types.Logic.{Logic, sem}
use contract.Monad.{fact}
use types.Kit.{Item, Goal, Step, step, prop, runs, frees, any_q, at_ret, mean, nth, del, sel, pop, unpull, ‵, raw, use1, ⋆, ◌⊛◌, ◌$◌, ◌∵◌, !, qed, move, drop, split, rewrite, fsplit, fjoin, fpick, fpack, frame, done}
use types.SemTy.{cells, Arr}
use types.Share.{arr_parts}
use types.Run.{Opd, Walks, Finds, skips, exec, free1, free0}
use denote.Shadow.{pure_l}
use denote.Laws.{Is}
use denote.Memory.{mem, shares, cell_at, part_at, part_of}
use denote.Array.{Array, array_val, shape, Array-repeat}
use denote.ArrayMemory.{Array-apart, Array-whole}
use denote.Plain.{uint_Makes, uint_copy}
use denote.Builtin.{usize}
use denote.Index.{row, whole_in, whole_out}
use denote.Steps.{owned}
use denote.Triple.Walked.{says, needs}

-- ---- a local array of numbers

abbrev pub word : Ty
word = ty_int w64

abbrev pub z : Val
z = vint w64 0

pub ty_rep : (k : ℕ) → Holds (has_ty (ty_array word k) (array_val (replicate k z)))
ty_rep zero = tt
ty_rep (suc k) = ty_rep k

pub wt_rep : (k : ℕ) → WT (array_val (replicate k z))
wt_rep zero = tt
wt_rep (suc k) = (record { fits = lit< tt }, wt_rep k)

-- k numbers side by side, as they are shared
abbrev pub Parts : ℕ → List ℕ → ℕ → ℕ → Fml
Parts k ys b o = (arr_parts (shares usize) k).part full_share ys b o

module _ {M : Type 1} {𝓤 : Ura M} (𝓛 : Logic 𝓤) where
  -- an array of k zeros is k zeros side by side, as they are lent
  pub lend_in : (k b : ℕ) → ent 𝓤 (sem 𝓛 (fat full_share (ty_array word k) b 0 (array_val (replicate k z)))) (sem 𝓛 (cells (mem usize) (replicate k 0) b 0))
  unfolding part_of
  lend_in k b =
      qed 𝓛 (‵ (fat full_share (ty_array word k) b 0 (array_val (replicate k z))) ∷ []) ∵
      use1 𝓛 (‵ (cell_at full_share (ty_array word k ∷ []) (array_val (replicate k z) ∷ []) b 0)) (𝓛.laws.at_raw full_share (ty_array word k) b 0 (array_val (replicate k z))) $
      owned ! usize (Is usize) (uint_Makes 𝓛 w64) 0 (z ∷ []) (refl, lit< tt) $
      use1 𝓛 (‵ ((Array usize k).own_val (replicate k 0) (array_val (replicate k z) ∷ []))) (Array-repeat 𝓛 usize (uint_copy 𝓛 w64) k 0 z) $
      move ! (1 ∷ 0 ∷ []) $ fjoin ! $ fpack ! (List Val) (λ vs. fsep (cell_at full_share (ty_array word k ∷ []) vs b 0) ((Array usize k).own_val (replicate k 0) vs)) (array_val (replicate k z) ∷ []) $
      use1 𝓛 (‵ (Parts k (replicate k 0) b 0)) (Array-apart 𝓛 usize full_share tt k (replicate k 0) b 0) $
      fsplit ! $ drop ! $ use1 𝓛 (‵ (cells (mem usize) (replicate k 0) b 0)) (whole_in 𝓛 usize (replicate k 0) b 0) $ done !

  -- what comes back of a loan can be shared
  pub share_in : (k : ℕ) (ys : List ℕ) (b o : ℕ) → ent 𝓤 (sem 𝓛 ((Arr (mem usize) k).own_at ys b o)) (sem 𝓛 (Parts k ys b o))
  share_in k ys b o = qed 𝓛 (‵ ((Arr (mem usize) k).own_at ys b o) ∷ []) ∵ fsplit ! $ move ! (1 ∷ []) $ use1 𝓛 (‵ (row usize full_share ys b o)) (whole_out 𝓛 usize ys b o) $ move ! (1 ∷ 0 ∷ []) $ fjoin ! $ done !

  -- k numbers side by side are room for the array
  pub take_out : (k : ℕ) (ys : List ℕ) (b : ℕ) → ent 𝓤 (sem 𝓛 (Parts k ys b 0)) (sem 𝓛 (froom (ty_array word k) b 0))
  unfolding part_of
  take_out k ys b =
      qed 𝓛 (‵ (Parts k ys b 0) ∷ []) ∵ use1 𝓛 (‵ (part_at (Array usize k) full_share ys b 0)) (Array-whole 𝓛 usize full_share k ys b 0) $
      fpick ! (λ vs. fsplit ! $ move ! (1 ∷ []) $ fpick ! (λ us. fsplit ! $ pure_l ! (shape k ys vs us) (λ p. drop ! $
      rewrite ! 0 (λ (ws : List Val). ‵ (cell_at full_share (ty_array word k ∷ []) ws b 0)) p.0 refl $
      use1 𝓛 (‵ (fat full_share (ty_array word k) b 0 (array_val us))) (𝓛.laws.raw_at full_share (ty_array word k) b 0 (array_val us)) $
      use1 𝓛 (‵ (froom (ty_array word k) b 0)) (𝓛.laws.at_room (ty_array word k) b 0 (array_val us)) $ done !)))

  -- two facts and three beside what is shown
  beside₂ : (P : SProp 𝓤) (a b : Type 0) → a → b → ent 𝓤 P (sep 𝓤 P (sep 𝓤 (fact 𝓤 a) (fact 𝓤 b)))
  beside₂ P a b x y = via 𝓤 (sep 𝓤 (sep 𝓤 P (fact 𝓤 a)) (fact 𝓤 b))
      (qed 𝓛 (raw P ∷ []) ∵ says ! y $ says ! x $ done !)
      (assoc∗ 𝓤 P (fact 𝓤 a) (fact 𝓤 b))

  beside : (P : SProp 𝓤) (a b c : Type 0) → a → b → c → ent 𝓤 P (sep 𝓤 P (sep 𝓤 (fact 𝓤 a) (sep 𝓤 (fact 𝓤 b) (fact 𝓤 c))))
  beside P a b c x y v = via 𝓤 (sep 𝓤 (sep 𝓤 (sep 𝓤 P (fact 𝓤 a)) (fact 𝓤 b)) (fact 𝓤 c))
      (qed 𝓛 (raw P ∷ []) ∵ says ! v $ says ! y $ says ! x $ done !)
      (qed 𝓛 (((raw P ⊛ raw (fact 𝓤 a)) ⊛ raw (fact 𝓤 b)) ∷ raw (fact 𝓤 c) ∷ []) ∵ split ! $ split ! $ frame ! $ frame ! $ frame ! $ done !)

  -- and one more before those
  before : (P R : SProp 𝓤) (a : Type 0) → a → ent 𝓤 (sep 𝓤 P R) (sep 𝓤 P (sep 𝓤 (fact 𝓤 a) R))
  before P R a x = via 𝓤 (sep 𝓤 (sep 𝓤 P R) (fact 𝓤 a))
      (qed 𝓛 (raw (sep 𝓤 P R) ∷ []) ∵ says ! x $ done !)
      (qed 𝓛 ((raw P ⊛ raw R) ∷ raw (fact 𝓤 a) ∷ []) ∵ split ! $ frame ! $ move ! (1 ∷ 0 ∷ []) $ frame ! $ done !)

pub needs_both : {M : Type 1} (𝓤 : Ura M) (φ ψ : Type 0) (P : SProp 𝓤) {Q : SProp 𝓤} → (φ → ψ → ent 𝓤 P Q) → ent 𝓤 (sep 𝓤 P (sep 𝓤 (fact 𝓤 φ) (fact 𝓤 ψ))) Q
needs_both 𝓤 φ ψ P h = via 𝓤 (sep 𝓤 (sep 𝓤 P (fact 𝓤 φ)) (fact 𝓤 ψ)) (assoc' 𝓤 P (fact 𝓤 φ) (fact 𝓤 ψ)) (needs 𝓤 ψ (sep 𝓤 P (fact 𝓤 φ)) (λ y. needs 𝓤 φ P (λ x. h x y)))

-- entries that were brought to the head go back to where they stood
unsel : {M : Type 1} {𝓤 : Ura M} (𝓛 : Logic 𝓤) (π : List ℕ) (Γ : List (Item 𝓤)) → ent 𝓤 (⋆ 𝓛 (sel 𝓛 π Γ)) (⋆ 𝓛 Γ)
unsel {𝓤 = 𝓤} 𝓛 [] Γ = id⊢ 𝓤 (⋆ 𝓛 Γ)
unsel {𝓤 = 𝓤} 𝓛 (n ∷ π) Γ =
    via 𝓤 (sep 𝓤 (mean 𝓛 (nth 𝓛 n Γ)) (⋆ 𝓛 (sel 𝓛 π (del 𝓛 n Γ)))) (pop 𝓛 (nth 𝓛 n Γ) (sel 𝓛 π (del 𝓛 n Γ)))
    (via 𝓤 (sep 𝓤 (mean 𝓛 (nth 𝓛 n Γ)) (⋆ 𝓛 (del 𝓛 n Γ))) (mono_r 𝓤 (mean 𝓛 (nth 𝓛 n Γ)) (unsel 𝓛 π (del 𝓛 n Γ))) (unpull 𝓛 n Γ))

-- room for each local, and that it can be freed
abbrev pub Rooms : {M : Type 1} (𝓤 : Ura M) (H : Heap 𝓤) → Env 𝓤 H → List (Item 𝓤) → List (Item 𝓤)
Rooms 𝓤 H [] Γ = Γ
Rooms 𝓤 H (e ∷ E) Γ = ‵ (froom e.0 e.1 0) ∷ ‵ (fdies e.0 e.1) ∷ Rooms 𝓤 H E Γ

module _ {M : Type 1} {𝓤 : Ura M} {𝓛 : Logic 𝓤} {K : Type 0} {Γ : List (Item 𝓤)} where
  open 𝓛 use {H}

  pub skips_to : K → {C : Calls 𝓤 H} {Λ : Loops 𝓤 H} {E : Env 𝓤 H} (b : Body) (Kf : Val → SProp 𝓤) → Step K 𝓛 Γ (runs C Λ E b (at_ret E Kf)) Γ (runs C Λ E skip (any_q (after_seq 𝓤 H (Wp 𝓤 H C Λ E b (at_return 𝓤 H E Kf)) (at_return 𝓤 H E Kf))))
  skips_to t {C} {Λ} {E} b Kf = step (λ s. skips t $ exec t C Λ E b (at_ret E Kf) $ s)

  pub unmove : K → (π : List ℕ) {G : Goal 𝓤 H} → Step K 𝓛 Γ G (sel 𝓛 π Γ) G
  unmove t π = step (λ s. record { prf = via 𝓤 (⋆ 𝓛 Γ) (unsel 𝓛 π Γ) s.prf })

  pub free_all : K → (E : Env 𝓤 H) {g : Goal 𝓤 H} → Step K 𝓛 Γ g (Rooms 𝓤 H E Γ) (frees E g)
  free_all t [] = free0 t
  free_all t (e ∷ E) = step (λ s. free1 t $ free_all t E $ s)

  -- `from` for a local of which the type is known
  pub found : K → {E : Env 𝓤 H} {i : ℕ} {st : List PStep} {τ : Ty} {sp : Spot 𝓤 H} → (spot_of 𝓤 H E i).0 ≡ τ → Walks K 𝓛 Γ E (τ, (spot_of 𝓤 H E i).1, 0) st sp → Finds K 𝓛 Γ E (place i st) sp
  found t {E} {i} {st} e w = record { go = λ Kt h. subst (λ (σ : Ty). ent 𝓤 (⋆ 𝓛 Γ) (walk 𝓤 H E (σ, (spot_of 𝓤 H E i).1, 0) st Kt)) (sym e) (w.go Kt h) }

  -- `says` for two clauses, for three and for four
  pub says_both : K → {a b : Type 0} {P : SProp 𝓤} → a → b → Step K 𝓛 Γ (prop P) Γ (prop (sep 𝓤 P (sep 𝓤 (fact 𝓤 a) (fact 𝓤 b))))
  says_both t {a} {b} {P} x y = step (λ s. record { prf = via 𝓤 P s.prf (beside₂ 𝓛 P a b x y) })

  pub says_all : K → {a b c : Type 0} {P : SProp 𝓤} → a → b → c → Step K 𝓛 Γ (prop P) Γ (prop (sep 𝓤 P (sep 𝓤 (fact 𝓤 a) (sep 𝓤 (fact 𝓤 b) (fact 𝓤 c)))))
  says_all t {a} {b} {c} {P} x y v = step (λ s. record { prf = via 𝓤 P s.prf (beside 𝓛 P a b c x y v) })

  pub says_four : K → {a b c d : Type 0} {P : SProp 𝓤} → a → b → c → d → Step K 𝓛 Γ (prop P) Γ (prop (sep 𝓤 P (sep 𝓤 (fact 𝓤 a) (sep 𝓤 (fact 𝓤 b) (sep 𝓤 (fact 𝓤 c) (fact 𝓤 d))))))
  says_four t {a} {b} {c} {d} {P} x y v w =
      let R = sep 𝓤 (fact 𝓤 b) (sep 𝓤 (fact 𝓤 c) (fact 𝓤 d)) in
      step (λ s. record { prf = via 𝓤 P s.prf (via 𝓤 (sep 𝓤 P R) (beside 𝓛 P b c d y v w) (before 𝓛 P R a x)) })

  -- `lit` for a constant whose bound is shown
  pub big : K → {E : Env 𝓤 H} {w : Width} {n : ℕ} → Fits w n → Opd K 𝓛 Γ E (int_big w n) (vint w n)
  big t {w = w} {n = n} g = record { go = λ Kt h. via 𝓤 (Kt (vint w n)) h (guard_i 𝓤 (Fits w n) (Kt (vint w n)) g) }
