use Rattle.std.proofs.Common.{◌≡◌, ℕ, ◌+◌, ◌≤◌, Option, None, Some, List, ◌++◌, length, take, sym, ap, ◌∙◌, append_assoc, arith, rules}
use Rattle.std.proofs.lemmas.List.{take-append-le}
use Rattle.std.proofs.Math.Seq.{take-append-add, length-take-le}
use Rattle.std.specs.Io.KnownBytes.{Consumes}
use borrow.Rule.Slice.PartMut.{put_mid, post_of}
use Rattle.judge.proofs.read_whole.Goals as goal

-- the n bytes of b that were there, and m that were read into the k behind them
take-read : (b ys : List ℕ) (n k m : ℕ) → n ≤ length b → m ≤ length ys → take (n + m) (put_mid n k b ys) ≡ take n b ++ take m ys
take-read b ys n k m h l =
    let e : n ≡ length (take n b) = sym (length-take-le n b h) in
    ap (λ i. take (i + m) (put_mid n k b ys)) e ∙ take-append-add (take n b) (ys ++ post_of n k b) m ∙ ap (λ zs. take n b ++ zs) (take-append-le m ys (post_of n k b) l)

Consumes-then : (u v w : Option (List ℕ)) (a b c : List ℕ) → Consumes u v a → Consumes v w b → c ≡ a ++ b → Consumes u w c
Consumes-then None v w a b c x y e = tt
Consumes-then (Some xs) None w a b c x y e = absurd x
Consumes-then (Some xs) (Some ys) None a b c x y e = absurd y
Consumes-then (Some xs) (Some ys) (Some zs) a b c x y e = x ∙ ap (λ (t : List ℕ). a ++ t) y ∙ sym (append_assoc a b zs) ∙ ap (λ (t : List ℕ). t ++ zs) (sym e)

pub loop-n-preserved : goal.loop-n-preserved
loop-n-preserved g c =
    let l = c.loop-n in
    let b = c.in_ok-more.ensures.bound in
    record {
      within = search rules;
      bytes = Consumes-then _ _ _ _ _ _ l.invariant.bytes c.in_ok-more.ensures.bytes.0 (take-read l.buffer c.read.new.buf l.n _ c.in_ok-more.more (omega arith) b.0);
    }
