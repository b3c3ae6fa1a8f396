-- A `&κ mut [T]` that is shared for a lifetime κ' of a call, and is the holder's again behind it: `Again`, for a callee that only reads. It says nothing of any crate.
--     SharedAgain          what the holder keeps while the slice is shared: the lender's part at κ', and its own borrow at κ, open, with both halves of its ghost variable
--     shares_again         given the elements' law of sharing (`denote.Shares`), and tokens whose lifetimes' meet is within κ', which come back:  own (the `&κ mut [T]` ((b, o), γ, ys)) ∗ [κ]_q ∗ the tokens  ⊢ ⇛ (own (the `&κ' [T]` ((b, o), ys)) ∗ SharedAgain ∗ the tokens)
--     shares_again_free    the same with no law and no token, where the elements can be copied (`denote.Copied`)
--     shared_back          given `Room`:  [†κ'] ∗ SharedAgain  ⊢ ⇛ (own (the `&κ mut [T]` ((b, o), γ, ys)) ∗ [κ]_q)
-- Assumes `Logic`.
use mathlib.Core.Path.{refl}
use Prim.Native.Nat.{ℕ}
use mathlib.Core.List.{List, [], ◌∷◌}
use lib.ListN.{length}
use seplogic.Ra.Ura.{Ura}
use base.Fraction.{full_share}
use mir.Syntax.{Lifetime}
use mir.Val.{Val}
use base.Logic.{ent, sep, id⊢}
use base.Fml.{Lft, GName, Share, Fml, Incl, fsep, flft, fdead, fobs, fauth, flent, fobor, fhide}
use ghost.Rules.{Toks, span}
use types.Logic.{Logic, sem, lfts}
use types.Kit.{‵, raw, ◌⊛◌, later, ◌$◌, ◌∵◌, !, qed, move, use1, use2, drop, split, fsplit, fjoin, feq_i, frame, await, updating, now as at_once, done}
use types.Share.{arr_parts}
use types.Tokens.{lent_back}
use denote.RattleType.{RattleType}
use denote.Shadow.{pure_l, pure_i}
use denote.Copied.{Copied, each_lends}
use denote.Memory.{shares, shared_of}
use denote.Lends.{Lent, Lent-map}
use denote.Shares.{SharesAsFrom}
use denote.Ref.{Bor, MutBor}
use denote.Slice.{slice_val, MutSlice, ShrSlice, heres, Room, shr_slice_at, mut_slice_at, coded_holeys, elements_shared}
use denote.Lend.{Held, lends_shr_slice}
use denote.Index.{row, opens_slice, closes_slice}

module _ (R : RattleType) (κ κ' : Lft) (q : Share) (γ : GName) (b o : ℕ) where
  abbrev at-list : GName → List R.Denot → MutBor (List R.Denot)
  at-list δ ys = record { ref_ptr = (b, o); ghost_name = δ; now = ys }

  abbrev at_shared : List R.Denot → Bor (List R.Denot)
  at_shared ys = record { ref_ptr = (b, o); now = ys }

  -- what is shared, and what the holder keeps meanwhile
  abbrev Part : List R.Denot → Fml
  Part ys = (arr_parts (shares R) (length ys)).part full_share ys b o

  abbrev pub SharedAgain : List R.Denot → Fml
  SharedAgain ys = fsep (flent κ' (Part ys)) (fsep (fobor κ q (Held R (length ys) b o γ)) (fsep (fobs γ ((coded_holeys R).code (heres R ys))) (fauth γ ((coded_holeys R).code (heres R ys)))))

  module _ {M : Type 1} {𝓤 : Ura M} (𝓛 : Logic 𝓤) (ℓ ℓ' : Lifetime) (ys : List R.Denot) where
    open 𝓛 use {H, A}

    abbrev vals : List Val
    vals = slice_val (b, o) (length ys) ∷ []

    -- the elements' law and tokens, as `denote.Lend`'s `lends_shr_slice` takes them: the tokens come back
    pub shares_again : (l : Lft) → SharesAsFrom 𝓛 full_share R (shared_of R) l → (ts : Toks) → Incl (span ts) l → Incl (span ts) κ'
        → ent 𝓤 (sep 𝓤 (sem 𝓛 ((MutSlice ℓ κ R).own_val (at-list γ ys) vals)) (sep 𝓤 (A.lft κ q) (lfts 𝓛 ts)))
        (H.⇛ (sep 𝓤 (sem 𝓛 ((ShrSlice ℓ' κ' R).own_val (at_shared ys) vals)) (sep 𝓤 (sem 𝓛 (SharedAgain ys)) (lfts 𝓛 ts))))
    shares_again l law ts in_l in_κ' =
        qed 𝓛 (‵ ((MutSlice ℓ κ R).own_val (at-list γ ys) vals) ∷ ‵ (flft κ q) ∷ raw (lfts 𝓛 ts) ∷ []) ∵ updating ! $ fsplit ! $ pure_l ! (mut_slice_at R (at-list γ ys) vals) (λ p. fsplit ! $ opens_slice ! tt R ys b o $
        feq_i ! ℕ (length ys) (length ys) refl $ fjoin ! $ move ! (0 ∷ 4 ∷ []) $
        use2 𝓛 (later ((‵ ((ShrSlice ℓ' κ' R).own_val (at_shared ys) vals) ⊛ ‵ (flent κ' (Part ys))) ⊛ raw (lfts 𝓛 ts))) (lends_shr_slice 𝓛 R ℓ' κ' full_share ys b o p.1 l law ts in_l in_κ') $ await ! tt $ split ! $ split ! $
        -- [the shared slice; the lender's part at κ'; the tokens; the open borrow at κ; obs γ; auth γ]
        at_once ! $ frame ! $ move ! (3 ∷ 4 ∷ []) $ fjoin ! $ move ! (3 ∷ 0 ∷ []) $ fjoin ! $ move ! (1 ∷ 0 ∷ []) $ fjoin ! $ done !)

    -- with no token, where the elements can be copied
    pub shares_again_free : Copied 𝓛 R → ent 𝓤 (sep 𝓤 (sem 𝓛 ((MutSlice ℓ κ R).own_val (at-list γ ys) vals)) (A.lft κ q))
        (H.⇛ (sep 𝓤 (sem 𝓛 ((ShrSlice ℓ' κ' R).own_val (at_shared ys) vals)) (sem 𝓛 (SharedAgain ys))))
    shares_again_free c =
        qed 𝓛 (‵ ((MutSlice ℓ κ R).own_val (at-list γ ys) vals) ∷ ‵ (flft κ q) ∷ []) ∵ updating ! $ fsplit ! $ pure_l ! (mut_slice_at R (at-list γ ys) vals) (λ p. fsplit ! $ opens_slice ! tt R ys b o $
        feq_i ! ℕ (length ys) (length ys) refl $ fjoin ! $
        use1 𝓛 (later (‵ (elements_shared R ys b o κ') ⊛ ‵ (flent κ' (Part ys)))) (part_lends c κ') $ await ! tt $ split ! $ use1 𝓛 (‵ (fhide (elements_shared R ys b o κ'))) (id⊢ 𝓤 _) $
        pure_i ! (shr_slice_at R (at_shared ys) vals) (tt, (tt, tt)) (refl, p.1) $ fjoin ! $
        -- [the shared slice; the lender's part at κ'; the open borrow at κ; obs γ; auth γ]
        at_once ! $ frame ! $ move ! (2 ∷ 3 ∷ []) $ fjoin ! $ move ! (2 ∷ 0 ∷ []) $ fjoin ! $ move ! (1 ∷ 0 ∷ []) $ fjoin ! $ done !)
      where
        part_lends : Copied 𝓛 R → Lent 𝓛 (Part ys) (elements_shared R ys b o)
        part_lends c = Lent-map 𝓛 (Part ys) (row R full_share ys b o) (elements_shared R ys b o)
            (qed 𝓛 (‵ (Part ys) ∷ []) ∵ fsplit ! $ drop ! $ done !)
            (qed 𝓛 (‵ (row R full_share ys b o) ∷ []) ∵ feq_i ! ℕ (length ys) (length ys) refl $ fjoin ! $ done !)
            (each_lends 𝓛 R c full_share ys b o)

    pub shared_back : Room R (length ys) → ent 𝓤 (sep 𝓤 (A.dead κ') (sem 𝓛 (SharedAgain ys))) (H.⇛ (sep 𝓤 (sem 𝓛 ((MutSlice ℓ κ R).own_val (at-list γ ys) vals)) (A.lft κ q)))
    shared_back room =
        qed 𝓛 (‵ (fdead κ') ∷ ‵ (SharedAgain ys) ∷ []) ∵ updating ! $ move ! (1 ∷ []) $ fsplit ! $ move ! (2 ∷ 0 ∷ []) $ lent_back ! tt $ fsplit ! $ drop ! $
        move ! (1 ∷ []) $ fsplit ! $ move ! (1 ∷ []) $ fsplit ! $ move ! (3 ∷ 2 ∷ 0 ∷ 1 ∷ []) $ closes_slice ! tt R ys ys refl b o $ at_once ! $
        fjoin ! $ pure_i ! (mut_slice_at R (at-list γ ys) vals) (tt, (tt, tt)) (refl, room) $ fjoin ! $ done !
