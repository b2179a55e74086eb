-- What the steps at one node ask.
use Rattle.std.specs.Prelude.{ℕ, pos}
use Rattle.algebra.specs.Row.{Row, Within, ◌⊕◌, ◌⊖◌, ◌⊙◌}

-- Nothing on the way to a parent's Z is beyond M.
pub record Lifts (M power : ℕ) (own kids : Row) : Type 0 where
  pub times : Within M (pos power ⊙ own)
  pub both : Within M (pos power ⊙ own ⊕ kids)

-- Nothing on the way to the children's C is beyond M.
pub record Hands (M nodes factor : ℕ) (own gathered carried : Row) : Type 0 where
  pub times : Within M (pos nodes ⊙ own)
  pub rest : Within M (pos nodes ⊙ own ⊖ gathered)
  pub share : Within M (pos factor ⊙ (pos nodes ⊙ own ⊖ gathered))
  pub both : Within M (carried ⊕ pos factor ⊙ (pos nodes ⊙ own ⊖ gathered))

-- Nothing on the way to X is beyond M.
pub record Settles (M factor power : ℕ) (gathered carried : Row) : Type 0 where
  pub near : Within M (pos factor ⊙ gathered)
  pub far : Within M (pos power ⊙ carried)
  pub both : Within M (pos factor ⊙ gathered ⊕ pos power ⊙ carried)
