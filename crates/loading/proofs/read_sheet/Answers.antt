use native.Mathlib.Omega.{arith}
use mathlib.Core.Path.{refl}
use Rattle.loading.specs.Loading.{reply_to, cells_of}
use Rattle.loading.proofs.Loading.{gives, too_long, too_short, behind, whole, unread, sized}
use Rattle.loading.proofs.read_sheet.Goals as goal

pub returns-then-s-gt-BYTES : goal.returns-then-s-gt-BYTES
unfolding reply_to cells_of
returns-then-s-gt-BYTES c = let z = gives _ _ _ _ _ _ (too_long _ _ (omega arith)) refl c.refuse.ensures.value c.refuse.ensures.t_after in record { value = z.0; t_after = z.1 }

pub returns-then-t-lt-TABLE : goal.returns-then-t-lt-TABLE
unfolding reply_to cells_of
returns-then-t-lt-TABLE c = let z = gives _ _ _ _ _ _ (too_short _ _ (omega arith) (omega arith)) refl c.refuse-then-t-lt-TABLE.ensures.value c.refuse-then-t-lt-TABLE.ensures.t_after in record { value = z.0; t_after = z.1 }

pub returns-then-at-s : goal.returns-then-at-s
returns-then-at-s c = let z = gives _ _ _ _ _ _ (behind _ _ (omega arith) (omega arith) _ _ c.in-Ok.ensures.0 _ _ refl (omega (arith, c.if-at-s.true))) c.sheet.auto.t c.refuse_at.ensures.value c.refuse_at.ensures.t_after in record { value = z.0; t_after = z.1 }

pub clear_rest-requires : goal.clear_rest-requires
clear_rest-requires c = record { table_long_in_bounds = omega arith; sizes = sized _ _ _ c.in-Ok.ensures.0 _ _ refl }

pub returns-else-at-s : goal.returns-else-at-s
unfolding reply_to cells_of
returns-else-at-s c = let z = gives _ _ _ _ _ _ (whole _ _ (omega arith) (omega arith) _ _ c.in-Ok.ensures.0 _ _ refl (omega (arith, c.if-at-s.false))) c.sheet.auto.t c.answered.ensures c.clear_rest.ensures in record { value = z.0; t_after = z.1 }

pub returns-in-Err : goal.returns-in-Err
returns-in-Err c = let z = gives _ _ _ _ _ _ (unread _ _ (omega arith) (omega arith) _ _ c.in-Err.ensures.0 _ _ refl) c.sheet.auto.t c.refuse_at-in-Err.ensures.value c.refuse_at-in-Err.ensures.t_after in record { value = z.0; t_after = z.1 }
