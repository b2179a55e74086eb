-- One cell of zeros more.
use Rattle.std.proofs.Common.{◌≡◌, ℕ, ◌+◌, List, [], ◌∷◌, ◌++◌, map, replicate, ap, ◌∙◌}
use Rattle.std.proofs.lemmas.List.{map_push, replicate_more}
use Rattle.algebra.specs.Row.{Row}

pub rows_more : {K : Type 0} (row : K → Row) (xs xs' : List K) (x : K) (i : ℕ) (z : Row) → map row xs ≡ replicate i z → row x ≡ z → xs' ≡ xs ++ x ∷ [] → map row xs' ≡ replicate (i + 1) z
rows_more row xs xs' x i z before here e = ap (map row) e ∙ map_push row xs x ∙ (λ j. before j ++ here j ∷ []) ∙ replicate_more i z
