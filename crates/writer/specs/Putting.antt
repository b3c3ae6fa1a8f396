-- What the code has written: a piece of text in a buffer, and the entries that are due after it. Assumes nothing.
use Rattle.std.specs.Prelude.{ℕ, ◌≤◌, ◌<◌, ◌+◌, ◌≡◌, cond, List, length, leb, ltb, Option, Some, None}
use Rattle.tables.specs.Entries.{table_long, Within}
use Rattle.texts.specs.Wrote.{Wrote}
use Rattle.writing.specs.Written.{Place}
use Rattle.writer.specs.declared.Pen.{Pen}

-- A table of any contents whose counts lie within its sections
abbrev pub Whole : List ℕ → Type 0
Whole t = (table_long ≤ length t) × Within t

-- ---- where writing stands

-- the entries that are due
abbrev pub due : Pen → Place
due p = record { node = p.node; branch = p.branch; def = p.def; listed = p.listed; cell = p.cell }

-- within "32,768 bytes", and each entry that is used up took a byte: so no count wraps
pub record Small (p : Pen) : Type 0 where
  pub short : p.at ≤ 32768
  pub nodes : p.node ≤ p.at
  pub branches : p.branch ≤ p.at
  pub defs : p.def ≤ p.at
  pub listed : p.listed ≤ p.at
  pub cells : p.cell ≤ p.at

-- the buffer has room for one more field behind the last byte of a sheet
pub record Room (u : List ℕ) (p : Pen) : Type 0 where
  pub long : 32800 ≤ length u
  pub small : Small p

-- ---- what a function has written

-- w is the text that is due at `at`, and the entries that are due after it
pub record Went (u₀ : List ℕ) (at : ℕ) (w : List ℕ × Place) (p : Pen) (u : List ℕ) : Type 0 where
  pub wrote : Wrote u₀ at w.0 u p.at
  pub place : due p ≡ w.1
  pub small : Small p

-- it is too long for a sheet
pub record Passed (u₀ : List ℕ) (at : ℕ) (w : List ℕ × Place) (u : List ℕ) : Type 0 where
  pub passed : 32768 < at + length w.0
  pub long : length u ≡ length u₀

-- what a function has done that answers r
pub record Puts (u₀ : List ℕ) (at : ℕ) (w : List ℕ × Place) (r : Option Pen) (u : List ℕ) : Type 0 where
  pub on : (p : Pen) → r ≡ Some p → Went u₀ at w p u
  pub full : r ≡ None → Passed u₀ at w u

-- where writing stands after a piece of text that ends at e
abbrev pub stood : Pen → ℕ → Option Pen
stood p e = cond (ltb 32768 e) None (Some (record p { at = e }))

-- a text of over 32,768 bytes is no sheet's: none
unfoldable pub short : List ℕ → Option (List ℕ)
short xs = cond (leb (length xs) 32768) (Some xs) None
