-- The scan for the first byte that is not the mark's.
use Rattle.std.proofs.Common.{◌≡◌, ℕ, suc, ◌+◌, Bool, true, false, cond, not, eqb, List, [], ◌∷◌, length, Some, refl, ap, ◌∙◌, add-one, arith}
use Rattle.std.specs.List.{position, position_from, zip}
use Rattle.std.proofs.lemmas.Iterator.Adapters.{position_from-zero}
use Rattle.formats.specs.NoisyTable.{unlike}

turned : {A : Type 0} (b : Bool) (x y : A) → cond (not b) x y ≡ cond b y x
turned true x y = refl
turned false x y = refl

from : (i : ℕ) (ms xs : List ℕ) → length ms ≡ length xs → position_from (λ p. not (eqb p.0 p.1)) i (zip xs ms) ≡ unlike i ms xs
from i [] [] h = refl
from i [] (x ∷ xs) h = absurd (omega arith)
from i (m ∷ ms) [] h = absurd (omega arith)
from i (m ∷ ms) (x ∷ xs) h =
    turned (eqb x m) (Some i) (position_from (λ p. not (eqb p.0 p.1)) (i + 1) (zip xs ms))
    ∙ ap (λ o. cond (eqb x m) o (Some i)) (rw add-one (from (suc i) ms xs (omega arith)))

pub unlike-position : (ms xs : List ℕ) → length ms ≡ length xs → position (λ p. not (eqb p.0 p.1)) (zip xs ms) ≡ unlike 0 ms xs
unlike-position ms xs h = position_from-zero (λ p. not (eqb p.0 p.1)) (zip xs ms) ∙ from 0 ms xs h
