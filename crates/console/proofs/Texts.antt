-- A text that grows piece by piece, and the words of a slice.
use Rattle.std.proofs.Common.{◌≡◌, ℕ, ◌-◌, ◌<◌, ◌≤◌, List, [], ◌++◌, length, get_or, take, drop, sym, ap, ◌∙◌, arith, Bor}
use Rattle.std.specs.List.{flat_map}
use Rattle.std.proofs.lemmas.List.{drop-map, get_or-map, length-drop, length-map, take_all}
use Rattle.console.specs.Words.{texts}

pub joined-all : {X : Type 0} (f : X → List ℕ) (start : List ℕ) (xs : List X) (i : ℕ) (text : List ℕ) → length xs ≤ i → text ≡ start ++ flat_map f (take i xs) → text ≡ start ++ flat_map f xs
joined-all f start xs i text l e = e ∙ ap (λ (ys : List _). start ++ flat_map f ys) (take_all i xs l)

pub texts-length : (ws : List (Bor (List ℕ))) → length (texts ws) ≡ length ws
texts-length ws = length-map ws (λ w. w.now)

pub texts-at : (ws : List (Bor (List ℕ))) (i : ℕ) (d : Bor (List ℕ)) → i < length ws → get_or (texts ws) i [] ≡ (get_or ws i d).now
texts-at ws i d l = get_or-map (λ w. w.now) ws i d [] l

pub texts-from : (n : ℕ) (ws : List (Bor (List ℕ))) → texts (take (length ws - n) (drop n ws)) ≡ drop n (texts ws)
texts-from n ws = ap texts (take_all (length ws - n) (drop n ws) (omega (arith, length-drop n ws))) ∙ sym (drop-map (λ w. w.now) n ws)
