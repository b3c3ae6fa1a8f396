use mathlib.Core.Bool.{true≢false}
use mathlib.Core.Path.{sym, ◌∙◌}
use native.Mathlib.Omega.{arith}
use Rattle.tables.specs.Entries.{held, people}
use Rattle.writing.specs.Written.{sheet_text}
use Rattle.saving.proofs.Saving.{not_within, was_put, nothing_put, put-writable, few-cells, unwritten, no_room, with_room, refuses, saves}
use Rattle.saving.proofs.write_sheet.Goals as goal

pub returns-then-t-lt-TABLE : goal.returns-then-t-lt-TABLE
returns-then-t-lt-TABLE c = let z = refuses _ (few-cells _ _ c.if-t-lt-TABLE.true) c.refused.ensures in record { value = z.0; text_after = z.1 }

pub returns-then-not-counts_fit : goal.returns-then-not-counts_fit
returns-then-not-counts_fit c = let z = refuses _ (unwritten _ _ (omega arith) (not_within _ (λ w. true≢false (sym (c.counts_fit.ensures.1 w) ∙ c.if-not-counts_fit.true)))) c.refused-then-not-counts_fit.ensures in record { value = z.0; text_after = z.1 }

pub returns-in_default : goal.returns-in_default
returns-in_default c = let z = refuses _ (unwritten _ _ (omega arith) (nothing_put _ _ c.in_default.ensures.out_after)) c.refused-in_default.ensures in record { value = z.0; text_after = z.1 }

pub returns-then-not-reads_back : goal.returns-then-not-reads_back
returns-then-not-reads_back c = let p = was_put (sheet_text (people c.args.t.now) (held c.args.t.now)) c.in-Some.ensures.value c.in-Some.ensures.out_after in
    let z = refuses _ (unwritten _ _ (omega arith) (put-writable _ _ p.is c.reads_back.ensures ∙ c.if-not-reads_back.true)) c.refused-then-not-reads_back.ensures in record { value = z.0; text_after = z.1 }

pub returns-then-text-n : goal.returns-then-text-n
returns-then-text-n c = let p = was_put (sheet_text (people c.args.t.now) (held c.args.t.now)) c.in-Some.ensures.value c.in-Some.ensures.out_after in
    let z = refuses _ (no_room _ _ (omega arith) (put-writable _ _ p.is c.reads_back.ensures ∙ c.if-not-reads_back.false) (omega arith)) c.refused-then-text-n.ensures in record { value = z.0; text_after = z.1 }

pub returns : goal.returns
returns c = let p = was_put (sheet_text (people c.args.t.now) (held c.args.t.now)) c.in-Some.ensures.value c.in-Some.ensures.out_after in
    let z = saves (with_room _ _ (omega arith) (put-writable _ _ p.is c.reads_back.ensures ∙ c.if-not-reads_back.false) (omega arith)) p.is c.put_word-e.ensures c.answered.ensures in
    record { value = z.0; text_after = z.1 }
