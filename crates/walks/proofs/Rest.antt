-- The parameters that a method passes on to what it calls, behind self and the cells: any list of shared slices and numbers. What they own is one item of a walk's context, and so are their locals, so that one walk serves all such lists.
--     Part n           a number, or a `&'j [R]` at one of n lifetimes, which stand behind the first of a signature, with the laws of R (`RowLaws`), by which it can be had twice.        slots ps     their places in it
--     sees             what a contract reads of them: the numbers and the lists
--     words, typed, twice, stays, goes     their machine values; that these are of the locals' types; what they own can be had twice; it is still owned at exit.        counted     of numbers it is had for nothing
--     at_other         all of it at another choice for the first lifetime, where the same is owned (`owns-same`), read (`sees_same`) and passed (`words_same`)
--     rooms, full      their locals before and after they hold values.        allocs_all, passes_all, opds_all, frees_all     the locals are allocated, the values stored, read for a call, and the locals freed
--     past, behind     the number of a local behind them, and that it is there
-- Assumes `Logic`.
use mathlib.Core.Path.{◌≡◌, refl, sym, ap, subst}
use Prim.Native.Nat.{ℕ, zero, suc}
use mathlib.Core.List.{List, [], ◌∷◌}
use lib.Dec.{T}
use lib.ListN.{length, get_or}
use seplogic.Ra.Ura.{Ura}
use base.Fraction.{full_share}
use mir.Syntax.{Ty, ty_int, ty_ref, imm, named, w64, Local, local, value_local, Opd as Operand, copy, Step as PStep, place}
use mir.Val.{Val, WT, has_ty, vint}
use base.Logic.{SProp, ent, sep, wand, ex, emp, id⊢, via, comm∗, assoc∗, assoc', mono∗, mono_r, emp∗, wand_i, ex_i}
use base.Fml.{Lft, Share, Fml, ftrue, fsep, fat, froom, fdies}
use prog.Wp.{Env, Spot, no_local, walk}
use types.Logic.{Logic, sem}
use contract.Lifetimes.{Lfts, Within, lft_at}
use types.Kit.{Item, Goal, ‵, raw, ◌⊛◌, ⋆, mean, nth, del, pull, unpull, Seq, allocs, passes, frees, ◌$◌, ◌∵◌, !, qed, move, drop, use1, split, join, fsplit3, fjoin3, done}
use types.Run.{Reads, Walks, Finds, Opds, init, forget, stop, load, no_more, and_then, alloc1, pass1, pass0, free1}
use denote.RattleType.{RattleType, RowLaws, Denots, Valss, flat, owns}
use denote.Laws.{Typed, Is, Ises, Are, Spells, valss, Tellss, Copy}
use denote.Plain.{uint_Tells, uint_Makes, uint_copy}
use denote.Builtin.{usize}
use denote.Exit.{yes, Last, left}
use denote.Slice.{slice_ty, slice_val, ShrSlice, shr_slice_Tells, shr_slice_Lawful, shr_slice_copy}
use denote.Signature.{Slot, plain, types_at}
use denote.Steps.{nothing}
use denote.Triple.End.{Fins, all}
use denote.Triple.Walked.{Stays, stay_none, fits_of, has_of, AllGo, Goes-none}

pub data Part (n : ℕ) : Type 2 where
  number : Part n
  slice : (j : ℕ) → Within n j → (R : RattleType) → RowLaws R → Part n

module _ {n : ℕ} where
  abbrev pub row : Part n → Lfts n → RattleType
  row number κs = usize
  row (slice j ok R laws) κs = ShrSlice (named (suc j)) (lft_at n j ok κs) R

  abbrev pub slots : List (Part n) → List (Slot (suc n))
  slots [] = []
  slots (p ∷ ps) = plain (λ κs. row p κs.1) ∷ slots ps

  abbrev pub numbers : ℕ → List (Part n)
  numbers zero = []
  numbers (suc k) = number ∷ numbers k

  abbrev pub ty : Part n → Ty
  ty number = ty_int w64
  ty (slice j ok R laws) = slice_ty (ty_ref (named (suc j)) imm R.written.ty)

  abbrev pub tys : List (Part n) → List Ty
  tys [] = []
  tys (p ∷ ps) = ty p ∷ tys ps

  -- ---- what is read
  abbrev pub Seen : Part n → Type 0
  Seen number = ℕ
  Seen (slice j ok R laws) = List R.Denot

  abbrev pub see : (p : Part n) (κs : Lfts n) → (row p κs).Denot → Seen p
  see number κs x = x
  see (slice j ok R laws) κs x = x.now

  abbrev pub Sees : List (Part n) → Type 0
  Sees [] = Unit {0}
  Sees (p ∷ ps) = Seen p × Sees ps

  abbrev pub sees : (ps : List (Part n)) (κs : Lfts (suc n)) → Denots (types_at (slots ps) κs) → Sees ps
  sees [] κs a = tt
  sees (p ∷ ps) κs a = (see p κs.1 a.0, sees ps κs a.1)

  -- ---- the machine values
  abbrev pub word : (p : Part n) (κs : Lfts n) → (row p κs).Denot → Val
  word number κs x = vint w64 x
  word (slice j ok R laws) κs x = slice_val x.ref_ptr (length x.now)

  abbrev pub spells : (ps : List (Part n)) (κs : Lfts (suc n)) → Spells (types_at (slots ps) κs)
  spells [] κs = tt
  spells (p ∷ ps) κs = (λ x. word p κs.1 x ∷ [], spells ps κs)

  abbrev pub vals : (ps : List (Part n)) (κs : Lfts (suc n)) → Denots (types_at (slots ps) κs) → Valss (types_at (slots ps) κs)
  vals ps κs a = valss (types_at (slots ps) κs) (spells ps κs) a

  abbrev pub words : (ps : List (Part n)) (κs : Lfts (suc n)) → Denots (types_at (slots ps) κs) → List Val
  words ps κs a = flat (types_at (slots ps) κs) (vals ps κs a)

  tell-one : (p : Part n) (κs : Lfts n) (x : (row p κs).Denot) (vs : List Val) → Is (row p κs) x vs → vs ≡ word p κs x ∷ []
  tell-one number κs = uint_Tells w64
  tell-one (slice j ok R laws) κs = shr_slice_Tells (named (suc j)) (lft_at n j ok κs) R

  pub tells : (ps : List (Part n)) (κs : Lfts (suc n)) → Tellss (types_at (slots ps) κs) (Ises (types_at (slots ps) κs)) (spells ps κs)
  tells [] κs = tt
  tells (p ∷ ps) κs = (tell-one p κs.1, tells ps κs)

  -- ---- at another choice for the first lifetime
  module _ (κ' : Lft) where
    abbrev pub at_other : (ps : List (Part n)) (κs : Lfts (suc n)) → Denots (types_at (slots ps) κs) → Denots (types_at (slots ps) (κ', κs.1))
    at_other [] κs a = tt
    at_other (p ∷ ps) κs a = (a.0, at_other ps κs a.1)

    pub owns-same : (ps : List (Part n)) (κs : Lfts (suc n)) (a : Denots (types_at (slots ps) κs)) → owns (types_at (slots ps) κs) a (vals ps κs a) ≡ owns (types_at (slots ps) (κ', κs.1)) (at_other ps κs a) (vals ps (κ', κs.1) (at_other ps κs a))
    owns-same [] κs a = refl
    owns-same (p ∷ ps) κs a = ap (λ (P : Fml). fsep ((row p κs.1).own_val a.0 (word p κs.1 a.0 ∷ [])) P) (owns-same ps κs a.1)

    pub words_same : (ps : List (Part n)) (κs : Lfts (suc n)) (a : Denots (types_at (slots ps) κs)) → words ps (κ', κs.1) (at_other ps κs a) ≡ words ps κs a
    words_same [] κs a = refl
    words_same (p ∷ ps) κs a = ap (λ (vs : List Val). word p κs.1 a.0 ∷ vs) (words_same ps κs a.1)

    pub sees_same : (ps : List (Part n)) (κs : Lfts (suc n)) (a : Denots (types_at (slots ps) κs)) → sees ps (κ', κs.1) (at_other ps κs a) ≡ sees ps κs a
    sees_same [] κs a = refl
    sees_same (p ∷ ps) κs a = λ i. (see p κs.1 a.0, sees_same ps κs a.1 i)

  -- ---- at exit they are still owned, as they were passed
  abbrev pub stays : (ps : List (Part n)) → Stays (slots ps) (all yes (slots ps))
  stays [] = tt
  stays (p ∷ ps) = (stay_none (λ κs. row p κs.1) yes, stays ps)

  abbrev last_one : (p : Part n) (κs : Lfts n) (x : (row p κs).Denot) → Last ((row p κs).exit yes) x
  last_one number κs x = tt
  last_one (slice j ok R laws) κs x = tt

  silent_one : (p : Part n) (κs : Lfts n) (x : (row p κs).Denot) (f : Last ((row p κs).exit yes) x) → left ((row p κs).exit yes) x f ≡ ftrue
  silent_one number κs x f = refl
  silent_one (slice j ok R laws) κs x f = refl

  abbrev pub fins : (ps : List (Part n)) (κs : Lfts (suc n)) (a : Denots (types_at (slots ps) κs)) → Fins κs (slots ps) (all yes (slots ps)) a
  fins [] κs a = tt
  fins (p ∷ ps) κs a = (last_one p κs.1 a.0, fins ps κs a.1)

  pub fits : (ps : List (Part n)) (κs : Lfts (suc n)) (a : Denots (types_at (slots ps) κs)) → fits_of κs (slots ps) (all yes (slots ps)) (stays ps) a (fins ps κs a)
  fits [] κs a = tt
  fits (p ∷ ps) κs a = (tt, fits ps κs a.1)

  pub had_same : (ps : List (Part n)) (κs : Lfts (suc n)) (a : Denots (types_at (slots ps) κs)) (vss : Valss (types_at (slots ps) κs)) → owns (types_at (slots ps) κs) a vss ≡ has_of κs (slots ps) (all yes (slots ps)) (stays ps) a (fins ps κs a) vss
  had_same [] κs a vss = refl
  had_same (p ∷ ps) κs a vss = ap (λ (P : Fml). fsep ((row p κs.1).own_val a.0 vss.0) P) (had_same ps κs a.1 vss.1)

  module _ {M : Type 1} {𝓤 : Ura M} (𝓛 : Logic 𝓤) where
    typed_one : (p : Part n) (κs : Lfts n) (x : (row p κs).Denot) → Is (row p κs) x (word p κs x ∷ []) → T (has_ty (ty p) (word p κs x)) × WT (word p κs x)
    typed_one number κs x is = (tt, record { fits = is.1 })
    typed_one (slice j ok R laws) κs x is = ((shr_slice_Lawful 𝓛 (named (suc j)) (lft_at n j ok κs) R).typed x _ is).0

    pub typed : (ps : List (Part n)) (κs : Lfts (suc n)) (a : Denots (types_at (slots ps) κs)) → Are (types_at (slots ps) κs) (Ises (types_at (slots ps) κs)) a (vals ps κs a) → Typed (tys ps) (words ps κs a)
    typed [] κs a are = tt
    typed (p ∷ ps) κs a are = (typed_one p κs.1 a.0 are.0, typed ps κs a.1 are.1)

    twice-one : (p : Part n) (κs : Lfts n) → Copy 𝓛 (row p κs)
    twice-one number κs = uint_copy 𝓛 w64
    twice-one (slice j ok R laws) κs = shr_slice_copy 𝓛 (named (suc j)) (lft_at n j ok κs) R laws

    pub twice : (ps : List (Part n)) (κs : Lfts (suc n)) (a : Denots (types_at (slots ps) κs)) (vss : Valss (types_at (slots ps) κs)) → ent 𝓤 (sem 𝓛 (owns (types_at (slots ps) κs) a vss)) (sep 𝓤 (sem 𝓛 (owns (types_at (slots ps) κs) a vss)) (sem 𝓛 (owns (types_at (slots ps) κs) a vss)))
    twice [] κs a vss = qed 𝓛 (‵ ftrue ∷ []) ∵ nothing ! $ done !
    twice (p ∷ ps) κs a vss =
        let P : Fml = (row p κs.1).own_val a.0 vss.0 in
        let Q : Fml = owns (types_at (slots ps) κs) a.1 vss.1 in
        qed 𝓛 ((‵ P ⊛ ‵ Q) ∷ []) ∵ split ! $ use1 𝓛 (‵ P ⊛ ‵ P) ((twice-one p κs.1).twice a.0 vss.0) $ split ! $ move ! (2 ∷ []) $ use1 𝓛 (‵ Q ⊛ ‵ Q) (twice ps κs a.1 vss.1) $ split ! $
        move ! (2 ∷ 0 ∷ []) $ join ! $ move ! (2 ∷ 1 ∷ []) $ join ! $ done !

    pub goes : (ps : List (Part n)) → AllGo 𝓛 (suc n) (slots ps) (all yes (slots ps)) (stays ps)
    goes [] = tt
    goes (p ∷ ps) = (Goes-none 𝓛 (suc n) (λ κs. row p κs.1) yes (λ κs. silent_one p κs.1), goes ps)

-- numbers own facts alone, so that they are had for nothing
module _ {M : Type 1} {𝓤 : Ura M} (𝓛 : Logic 𝓤) (n : ℕ) (κs : Lfts (suc n)) where
  pub counted : (k : ℕ) (a : Denots (types_at (slots (numbers {n = n} k)) κs)) → Are (types_at (slots (numbers {n = n} k)) κs) (Ises (types_at (slots (numbers {n = n} k)) κs)) a (vals (numbers {n = n} k) κs a)
      → ent 𝓤 (emp 𝓤) (sem 𝓛 (owns (types_at (slots (numbers {n = n} k)) κs) a (vals (numbers {n = n} k) κs a)))
  counted zero a are = id⊢ 𝓤 (emp 𝓤)
  counted (suc k) a are = via 𝓤 (sep 𝓤 (emp 𝓤) (emp 𝓤)) (emp∗ 𝓤 (emp 𝓤)) (mono∗ 𝓤 (uint_Makes 𝓛 w64 a.0 _ are.0) (counted k a.1 are.1))

-- ---- their locals
abbrev pub Blocks : List Ty → Type 0
Blocks [] = Unit {0}
Blocks (τ ∷ τs) = ℕ × Blocks τs

abbrev pub locals : List Ty → List Local → List Local
locals [] ls = ls
locals (τ ∷ τs) ls = local τ value_local ∷ locals τs ls

abbrev pub passed_on : ℕ → List Ty → List Operand
passed_on i [] = []
passed_on i (τ ∷ τs) = copy (place i []) ∷ passed_on (suc i) τs

abbrev pub past : List Ty → ℕ → ℕ
past [] i = i
past (τ ∷ τs) i = suc (past τs i)

abbrev pub rooms : (τs : List Ty) → Blocks τs → Fml
rooms [] bs = ftrue
rooms (τ ∷ τs) bs = fsep (froom τ bs.0 zero) (fsep (fdies τ bs.0) (rooms τs bs.1))

abbrev pub full : (τs : List Ty) → Blocks τs → List Val → Fml
full [] bs vs = ftrue
full (τ ∷ τs) bs [] = ftrue
full (τ ∷ τs) bs (v ∷ vs) = fsep (fat full_share τ bs.0 zero v) (fsep (fdies τ bs.0) (full τs bs.1 vs))

module _ {M : Type 1} {𝓤 : Ura M} (𝓛 : Logic 𝓤) where
  open 𝓛 use {H}

  abbrev pub env : (τs : List Ty) → Blocks τs → Env 𝓤 H → Env 𝓤 H
  env [] bs E = E
  env (τ ∷ τs) bs E = (τ, bs.0) ∷ env τs bs.1 E

  abbrev pub Located : Env 𝓤 H → ℕ → (τs : List Ty) → Blocks τs → Type 0
  Located E i [] bs = Unit {0}
  Located E i (τ ∷ τs) bs = (get_or E i (no_local 𝓤 H) ≡ (τ, bs.0)) × Located E (suc i) τs bs.1

  pub shift : (E : Env 𝓤 H) (e : Ty × ℕ) (i : ℕ) (τs : List Ty) (bs : Blocks τs) → Located E i τs bs → Located (e ∷ E) (suc i) τs bs
  shift E e i [] bs h = tt
  shift E e i (τ ∷ τs) bs h = (h.0, shift E e (suc i) τs bs.1 h.1)

  pub located : (τs : List Ty) (bs : Blocks τs) (E : Env 𝓤 H) → Located (env τs bs E) 0 τs bs
  located [] bs E = tt
  located (τ ∷ τs) bs E = (refl, shift (env τs bs.1 E) (τ, bs.0) 0 τs bs.1 (located τs bs.1 E))

  pub behind : (τs : List Ty) (bs : Blocks τs) (E : Env 𝓤 H) (i : ℕ) → get_or (env τs bs E) (past τs i) (no_local 𝓤 H) ≡ get_or E i (no_local 𝓤 H)
  behind [] bs E i = refl
  behind (τ ∷ τs) bs E i = behind τs bs.1 E i

  module _ where
    pub emptied : (τs : List Ty) (bs : Blocks τs) (vs : List Val) → Typed τs vs → ent 𝓤 (sem 𝓛 (full τs bs vs)) (sem 𝓛 (rooms τs bs))
    emptied [] bs vs t = id⊢ 𝓤 _
    emptied (τ ∷ τs) bs [] t = absurd t
    emptied (τ ∷ τs) bs (v ∷ vs) t = qed 𝓛 (‵ (full (τ ∷ τs) bs (v ∷ vs)) ∷ []) ∵ fsplit3 ! $ forget ! 0 refl $ move ! (2 ∷ []) $ use1 𝓛 (‵ (rooms τs bs.1)) (emptied τs bs.1 vs t.1) $ move ! (1 ∷ 2 ∷ 0 ∷ []) $ fjoin3 ! $ done !

module _ {M : Type 1} {𝓤 : Ura M} {𝓛 : Logic 𝓤} {K : Type 0} where
  open 𝓛 use {H}

  pub allocs_all : K → {Γ : List (Item 𝓤)} (τs : List Ty) {ls : List Local} {Kt : Env 𝓤 H → Goal 𝓤 H} → ((bs : Blocks τs) → Seq K 𝓛 (‵ (rooms τs bs) ∷ Γ) (allocs ls (λ E. Kt (env 𝓛 τs bs E)))) → Seq K 𝓛 Γ (allocs (locals τs ls) Kt)
  allocs_all t [] k = nothing t $ k tt
  allocs_all t {Γ = Γ} (τ ∷ τs) k = alloc1 t (λ b. allocs_all t {Γ = ‵ (froom τ b zero) ∷ ‵ (fdies τ b) ∷ Γ} τs (λ bs. move t (1 ∷ 2 ∷ 0 ∷ []) $ fjoin3 t $ k (b, bs)))

  pub passes_all : K → {Γ : List (Item 𝓤)} (τs : List Ty) (bs : Blocks τs) (vs : List Val) (E : Env 𝓤 H) {g : Goal 𝓤 H} → Typed τs vs → Seq K 𝓛 (‵ (full τs bs vs) ∷ Γ) g → Seq K 𝓛 (‵ (rooms τs bs) ∷ Γ) (passes (env 𝓛 τs bs E) vs g)
  passes_all t [] bs [] E ok s = pass0 t $ s
  passes_all t [] bs (v ∷ vs) E ok s = absurd ok
  passes_all t (τ ∷ τs) bs [] E ok s = absurd ok
  passes_all t {Γ = Γ} (τ ∷ τs) bs (v ∷ vs) E ok s = fsplit3 t $ pass1 t (init t 0 refl ok.0) $ move t (2 ∷ []) $ passes_all t {Γ = ‵ (fat full_share τ bs.0 zero v) ∷ ‵ (fdies τ bs.0) ∷ Γ} τs bs.1 vs E ok.1 (move t (1 ∷ 2 ∷ 0 ∷ []) $ fjoin3 t $ s)

  pub frees_all : K → {Γ : List (Item 𝓤)} (τs : List Ty) (bs : Blocks τs) {E : Env 𝓤 H} {g : Goal 𝓤 H} → Seq K 𝓛 Γ (frees E g) → Seq K 𝓛 (‵ (rooms τs bs) ∷ Γ) (frees (env 𝓛 τs bs E) g)
  frees_all t [] bs s = drop t $ s
  frees_all t (τ ∷ τs) bs s = fsplit3 t $ free1 t $ frees_all t τs bs.1 s

  -- `from` for a local that is known to be there
  pub at_place : K → {Γ : List (Item 𝓤)} {E : Env 𝓤 H} {i : ℕ} {st : List PStep} {e : Ty × ℕ} {sp : Spot 𝓤 H} → get_or E i (no_local 𝓤 H) ≡ e → Walks K 𝓛 Γ E (e.0, e.1, zero) st sp → Finds K 𝓛 Γ E (place i st) sp
  at_place t {Γ} {E} {i} {st} e w = record { go = λ Kt h. subst (λ (x : Ty × ℕ). ent 𝓤 (⋆ 𝓛 Γ) (walk 𝓤 H E (x.0, x.1, zero) st Kt)) (sym e) (w.go Kt h) }

  reads_by : K → {Γ : List (Item 𝓤)} (q : Share) (τ : Ty) (b o : ℕ) (v : Val) (R : SProp 𝓤) → ent 𝓤 (⋆ 𝓛 Γ) (sep 𝓤 (H.at q τ b o v) R) → ent 𝓤 (sep 𝓤 (H.at q τ b o v) R) (⋆ 𝓛 Γ) → Reads K 𝓛 Γ τ b o v
  reads_by t {Γ} q τ b o v R out back = record {
    go = λ Kt h.
        via 𝓤 (sep 𝓤 (H.at q τ b o v) R) out
        (via 𝓤 (sep 𝓤 (H.at q τ b o v) (wand 𝓤 (H.at q τ b o v) (Kt v)))
        (mono_r 𝓤 (H.at q τ b o v) (wand_i 𝓤 R (H.at q τ b o v) (Kt v) (via 𝓤 (sep 𝓤 (H.at q τ b o v) R) (comm∗ 𝓤 R (H.at q τ b o v)) (via 𝓤 (⋆ 𝓛 Γ) back h))))
        (via 𝓤 (ex 𝓤 (λ (u : Val). sep 𝓤 (H.at q τ b o u) (wand 𝓤 (H.at q τ b o u) (Kt u))))
        (ex_i 𝓤 (λ (u : Val). sep 𝓤 (H.at q τ b o u) (wand 𝓤 (H.at q τ b o u) (Kt u))) v)
        (ex_i 𝓤 (λ (s : Share). ex 𝓤 (λ (u : Val). sep 𝓤 (H.at s τ b o u) (wand 𝓤 (H.at s τ b o u) (Kt u)))) q)));
  }

  opds_by : K → {Γ : List (Item 𝓤)} {E : Env 𝓤 H} (τs : List Ty) (bs : Blocks τs) (vs : List Val) (i : ℕ) (R : SProp 𝓤) → ent 𝓤 (⋆ 𝓛 Γ) (sep 𝓤 (sem 𝓛 (full τs bs vs)) R) → ent 𝓤 (sep 𝓤 (sem 𝓛 (full τs bs vs)) R) (⋆ 𝓛 Γ)
      → Typed τs vs → Located 𝓛 E i τs bs → Opds K 𝓛 Γ E (passed_on i τs) vs
  opds_by t [] bs [] i R out back ok at = no_more t
  opds_by t [] bs (v ∷ vs) i R out back ok at = absurd ok
  opds_by t (τ ∷ τs) bs [] i R out back ok at = absurd ok
  opds_by t {Γ} (τ ∷ τs) bs (v ∷ vs) i R out back ok at =
      let F : SProp 𝓤 = H.at full_share τ bs.0 zero v in
      let D : SProp 𝓤 = H.dies τ bs.0 in
      let P : SProp 𝓤 = sem 𝓛 (full τs bs.1 vs) in
      and_then t (load t (at_place t at.0 (stop t)) (reads_by t full_share τ bs.0 zero v (sep 𝓤 (sep 𝓤 D P) R) (via 𝓤 (sep 𝓤 (sep 𝓤 F (sep 𝓤 D P)) R) out (assoc∗ 𝓤 F (sep 𝓤 D P) R)) (via 𝓤 (sep 𝓤 (sep 𝓤 F (sep 𝓤 D P)) R) (assoc' 𝓤 F (sep 𝓤 D P) R) back)))
      (opds_by t τs bs.1 vs (suc i) (sep 𝓤 F (sep 𝓤 D R))
      (via 𝓤 (sep 𝓤 (sep 𝓤 F (sep 𝓤 D P)) R) out (qed 𝓛 ((raw F ⊛ (raw D ⊛ raw P)) ∷ raw R ∷ []) ∵ split ! $ move ! (1 ∷ []) $ split ! $ move ! (1 ∷ 2 ∷ 0 ∷ []) $ done !))
      (via 𝓤 (sep 𝓤 (sep 𝓤 F (sep 𝓤 D P)) R) (qed 𝓛 (raw P ∷ raw F ∷ raw D ∷ raw R ∷ []) ∵ move ! (2 ∷ 0 ∷ []) $ join ! $ move ! (1 ∷ 0 ∷ []) $ join ! $ done !) back)
      ok.1 at.1)

  -- entry j of the context is the locals, and they are passed on
  pub opds_all : K → {Γ : List (Item 𝓤)} {E : Env 𝓤 H} (j : ℕ) (τs : List Ty) (bs : Blocks τs) (vs : List Val) (i : ℕ) → nth 𝓛 j Γ ≡ ‵ (full τs bs vs) → Typed τs vs → Located 𝓛 E i τs bs → Opds K 𝓛 Γ E (passed_on i τs) vs
  opds_all t {Γ} j τs bs vs i e ok at =
      opds_by t τs bs vs i (⋆ 𝓛 (del 𝓛 j Γ))
      (subst (λ (x : Item 𝓤). ent 𝓤 (⋆ 𝓛 Γ) (sep 𝓤 (mean 𝓛 x) (⋆ 𝓛 (del 𝓛 j Γ)))) e (pull 𝓛 j Γ))
      (subst (λ (x : Item 𝓤). ent 𝓤 (sep 𝓤 (mean 𝓛 x) (⋆ 𝓛 (del 𝓛 j Γ))) (⋆ 𝓛 Γ)) e (unpull 𝓛 j Γ))
      ok at
