-- The number by which a table tells a kind of action. Assumes nothing.
use Rattle.std.specs.Prelude.{ℕ}
use Rattle.tables.specs.declared.Kind.{Kind}
use Rattle.tables.specs.declared.Kind.TheVariants.{Withdraw, Split, Reveal, Renew}
use Rattle.tables.specs.Codes.{withdraw_kind, split_kind, reveal_kind, renew_kind}

abbrev pub code : Kind → ℕ
code Withdraw = withdraw_kind
code Split = split_kind
code Reveal = reveal_kind
code Renew = renew_kind
