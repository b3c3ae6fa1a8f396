-- Bytes written one behind the other. Assumes nothing.
use mathlib.Core.Path.{◌≡◌, refl, sym, ap, ap₂, ◌∙◌}
use Prim.Native.Nat.{ℕ, ◌+◌, ◌-◌, ◌≤◌, ◌<◌}
use native.Mathlib.Omega.{arith}
use native.Mathlib.Numerals.{add-one}
use mathlib.Core.List.{List, [], ◌∷◌, ◌++◌, append-nil, append_assoc}
use lib.ListN.{length, take, drop, set, replicate, length-set, length-append, length-take, length-drop, take-append-drop}
use lib.Seq.{take-suc-set, drop-set-lt, drop-drop}
use borrow.Rule.Slice.PartMut.{put_mid, same_len_mid}
use Rattle.std.proofs.lemmas.Slice.{take-put_mid, drop-put_mid}
use Rattle.bitml.proofs.Lists.{drop-replicate}
use Rattle.texts.specs.Wrote.{Wrote}

pub wrote_none : (u : List ℕ) (a : ℕ) → Wrote u a [] u a
wrote_none u a = record { end = omega arith; long = refl; front = sym (append-nil (take a u)); rest = refl }

pub wrote_byte : (u : List ℕ) (a b : ℕ) → a < length u → Wrote u a (b ∷ []) (set u a b) (a + 1)
wrote_byte u a b h =
    record {
      end = refl;
      long = length-set u a b;
      front = rw add-one (take-suc-set u a b h);
      rest = drop-set-lt (a + 1) u a b (omega arith);
    }

-- xs into the part of u that begins at a and is as long
pub wrote_part : (u xs ys : List ℕ) (a k : ℕ) → a + length xs ≤ length u → k ≡ length xs → ys ≡ xs → Wrote u a xs (put_mid a k u ys) (a + length xs)
wrote_part u xs ys a k h m e =
    let l : length ys ≡ k = cc in
    record {
      end = refl;
      long = same_len_mid a k u ys (omega (arith, length-take k (drop a u), length-drop a u));
      front = rw (take-put_mid a k u ys (a + length xs) (omega arith) (omega arith), e);
      rest = drop-put_mid a k u ys (a + length xs) (omega arith) (omega arith) l;
    }

pub wrote_then : {u₀ xs u ys v : List ℕ} {a b c : ℕ} → Wrote u₀ a xs u b → Wrote u b ys v c → Wrote u₀ a (xs ++ ys) v c
wrote_then {u₀} {xs} {u} {ys} {v} {a} {b} {c} x y =
    let s : c ≡ b + length ys = y.end in
    record {
      end = omega (arith, x.end, y.end, length-append xs ys);
      long = y.long ∙ x.long;
      front = y.front ∙ ap (λ zs. zs ++ ys) x.front ∙ append_assoc (take a u₀) xs ys;
      rest =
          y.rest ∙ ap (λ k. drop k u) s ∙ sym (drop-drop (length ys) b u) ∙ ap (drop (length ys)) x.rest
          ∙ drop-drop (length ys) b u₀ ∙ ap (λ k. drop k u₀) (sym s);
    }

-- What was written ends inside the buffer
pub wrote-within : {u₀ xs u : List ℕ} {a r : ℕ} → Wrote u₀ a xs u r → a ≤ length u₀ → r ≤ length u
wrote-within {u₀} {xs} {u} {a} {r} w h =
    let e = sym (length-take r u) ∙ ap (λ zs. length zs) w.front ∙ length-append (take a u₀) xs in
    omega (arith, e, length-take a u₀, w.end)

-- A buffer of zeros holds what was written from its start on, and is zero past it
pub wrote-all : {xs u : List ℕ} {r : ℕ} (n : ℕ) → Wrote (replicate n 0) 0 xs u r → u ≡ xs ++ replicate (n - length xs) 0
wrote-all {xs} {u} {r} n w =
    sym (take-append-drop r u)
    ∙ ap₂ (λ x y. x ++ y) w.front (w.rest ∙ drop-replicate r n 0 ∙ ap (λ m. replicate m 0) (let e : n - r ≡ n - length xs = omega (arith, w.end) in e))
