-- Which call a name stands for.
use Rattle.std.proofs.Common.{◌≡◌, ℕ, cond, List, length, drop, codes, sym, refl, ap, ◌∙◌, subst}
use Rattle.std.specs.Str.{bytes_eq}
use Rattle.algebra.specs.Row.{Row}
use Rattle.history.specs.Events.{Asked, lay, enter, enter_wire, strike, load, release, read, publish}
use Rattle.console.specs.Words.{Number}
use Rattle.console.specs.Spelling.{Argued, Bytes, One, Placed, Spells, Two, at, name_of}

pub data Verb : Type 0 where
  to_lay : Verb
  to_enter : Verb
  to_wire : Verb
  to_strike : Verb
  to_load : Verb
  to_release : Verb
  to_read : Verb
  to_publish : Verb
  none : Verb

abbrev pub verb : List ℕ → Verb
verb name =
    cond (bytes_eq name (codes "lay")) to_lay (cond (bytes_eq name (codes "enter")) to_enter (cond (bytes_eq name (codes "wire")) to_wire
    (cond (bytes_eq name (codes "strike")) to_strike (cond (bytes_eq name (codes "load")) to_load (cond (bytes_eq name (codes "release")) to_release
    (cond (bytes_eq name (codes "read")) to_read (cond (bytes_eq name (codes "publish")) to_publish none)))))))

abbrev pub verb_of : Asked → Verb
verb_of (lay m n) = to_lay
verb_of (enter n x) = to_enter
verb_of (enter_wire n x) = to_wire
verb_of (strike n) = to_strike
verb_of (load t) = to_load
verb_of release = to_release
verb_of (read n) = to_read
verb_of (publish n) = to_publish

named : (call : Asked) → verb (name_of call) ≡ verb_of call
named (lay m n) = refl
named (enter n x) = refl
named (enter_wire n x) = refl
named (strike n) = refl
named (load t) = refl
named release = refl
named (read n) = refl
named (publish n) = refl

-- the words write no arguments of the call
abbrev pub Refuses : ℕ → List (List ℕ) → Verb → Type 0
Refuses w args to_lay = (m n : ℕ) → Two args m n → ⊥
Refuses w args to_enter = (n : ℕ) (x : Row) → Placed w args n x → ⊥
Refuses w args to_wire = (n : ℕ) (x : Row) → Placed w args n x → ⊥
Refuses w args to_strike = (n : ℕ) → One (Number 32) args n → ⊥
Refuses w args to_load = (bs : List ℕ) → Bytes args bs → ⊥
Refuses w args to_release = length args ≡ 0 → ⊥
Refuses w args to_read = (n : ℕ) → One (Number 32) args n → ⊥
Refuses w args to_publish = (n : ℕ) → One (Number 64) args n → ⊥
Refuses w args none = Unit {0}

refuses : (w : ℕ) (args : List (List ℕ)) (call : Asked) → Refuses w args (verb_of call) → Argued w args call → ⊥
refuses w args (lay m n) never a = never m n a
refuses w args (enter n x) never a = never n x a
refuses w args (enter_wire n x) never a = never n x a
refuses w args (strike n) never a = never n a
refuses w args (load t) never a = never t a
refuses w args release never a = never a
refuses w args (read n) never a = never n a
refuses w args (publish n) never a = never n a

pub not-spelt : (w : ℕ) (words : List (List ℕ)) (v : Verb) → verb (at words 0) ≡ v → Refuses w (drop 1 words) v → (call : Asked) → Spells w words call → ⊥
not-spelt w words v e never call s =
    let same : verb_of call ≡ v = sym (named call) ∙ ap verb (sym s.name) ∙ e in
    refuses w (drop 1 words) call (subst (Refuses w (drop 1 words)) (sym same) never) s.arguments
