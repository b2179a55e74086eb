-- The laid shape of a sheet, and what its state has to do with it.
use Rattle.std.proofs.Common.{◌≡◌, ℕ, suc, ◌-◌, ◌^◌, ◌<◌, ◌≤◌, Bool, true, false, cond, not, length, is_some, Some, None, Option, sym, refl, ap, ◌∙◌, subst, arith}
use Rattle.std.proofs.lemmas.Bool.{true≢false}
use Rattle.std.proofs.lemmas.Bool.Decides.{nat_tests}
use Rattle.shapes.specs.Laid.{Shapely}
use Rattle.shapes.specs.Tree.{size, wire}
use Rattle.shapes.specs.declared.shape.Shape.{Shape}
use Rattle.history.specs.Contents.{Contents, rooms, form_of, fitted, laid_in, is_released}
use Rattle.history.specs.Facts.{Form, Rooms, nodes, roomy}
use Rattle.history.specs.States.{next}
use Rattle.history.specs.declared.state.Action.TheVariants.{Lay, Change, Release}
use Rattle.history.specs.declared.state.State.{State}
use Rattle.history.specs.declared.state.State.TheVariants.{Unlaid, Filling, Released}

pub some_of : {A : Type 0} (o : Option A) → not (is_some o) ≡ false → (x : A) × (o ≡ Some x)
some_of None e = absurd (true≢false e)
some_of (Some x) e = (x, refl)

pub none_of : {A : Type 0} (o : Option A) → is_some o ≡ false → o ≡ None
none_of None e = refl
none_of (Some x) e = absurd (true≢false e)

pub never-some : {A : Type 0} {x : A} {P : Type 0} → None ≡ Some x → P
never-some e = absurd cc

fitted-is : (f g : Form) (r : Rooms) → fitted f r ≡ Some g → (f ≡ g) × (roomy (nodes g) r ≡ true)
fitted-is f g r e = go (roomy (nodes f) r) refl e
  where
    go : (b : Bool) → roomy (nodes f) r ≡ b → cond b (Some f) None ≡ Some g → (f ≡ g) × (roomy (nodes g) r ≡ true)
    go true p q = let k : f ≡ g = cc in (k, ap (λ (x : Form). roomy (nodes x) r) (sym k) ∙ p)
    go false p q = never-some q

pub fitted-so : (f : Form) (r : Rooms) → roomy (nodes f) r ≡ true → fitted f r ≡ Some f
fitted-so f r e = ap (λ b. cond b (Some f) None) e

-- the slices of a laid sheet are long enough
pub laid-roomy : (st : State) (r : Rooms) (f : Form) → laid_in st r ≡ Some f → roomy (nodes f) r ≡ true
laid-roomy Unlaid r f e = never-some e
laid-roomy (Filling s) r f e = (fitted-is (form_of s) f r e).1
laid-roomy (Released s) r f e = (fitted-is (form_of s) f r e).1

pub room-parts : (n : ℕ) (r : Rooms) → roomy n r ≡ true → (n ≤ r.noisy) × (n ≤ r.marks) × (n ≤ r.numerators) × (n ≤ r.work)
room-parts n r e = grind (arith, nat_tests)

pub room-so : (n : ℕ) (r : Rooms) → n ≤ r.noisy → n ≤ r.marks → n ≤ r.numerators → n ≤ r.work → roomy n r ≡ true
room-so n r a b c d = grind (arith, nat_tests)

pub wire-below : (b L j : ℕ) → 1 ≤ L → j < b ^ (L - 1) → wire b L j < size b L
wire-below b L j one l =
    let e : L ≡ suc (L - 1) = omega arith in
    omega (arith, ap (size b) e)

abbrev ShapelyForm : Form → Type 0
ShapelyForm f = Shapely f.fanout f.height

-- and its shape is one that there is
pub laid-shapely : (st : State) (r : Rooms) (f : Form) → laid_in st r ≡ Some f → Shapely f.fanout f.height
laid-shapely Unlaid r f e = never-some e
laid-shapely (Filling s) r f e = subst ShapelyForm (fitted-is (form_of s) f r e).0 s.shapely
laid-shapely (Released s) r f e = subst ShapelyForm (fitted-is (form_of s) f r e).0 s.shapely

-- a change of a count keeps the shape and withdraws the release
pub laid-change : (st : State) (r : Rooms) → laid_in (next st Change) r ≡ laid_in st r
laid-change Unlaid r = refl
laid-change (Filling s) r = refl
laid-change (Released s) r = refl

pub open-change : (st : State) → is_released (next st Change) ≡ false
open-change Unlaid = refl
open-change (Filling s) = refl
open-change (Released s) = refl

pub laid-release : (st : State) (r : Rooms) → laid_in (next st Release) r ≡ laid_in st r
laid-release Unlaid r = refl
laid-release (Filling s) r = refl
laid-release (Released s) r = refl

pub open-release : (st : State) (r : Rooms) (f : Form) → laid_in st r ≡ Some f → is_released (next st Release) ≡ true
open-release Unlaid r f e = never-some e
open-release (Filling s) r f e = refl
open-release (Released s) r f e = refl

pub next-lay : (st : State) (s : Shape) → next st (Lay s) ≡ Filling s
next-lay Unlaid s = refl
next-lay (Filling t) s = refl
next-lay (Released t) s = refl

rooms-of : ℕ → ℕ → ℕ → ℕ → Rooms
rooms-of a b c d = record { noisy = a; marks = b; numerators = c; work = d }

pub same-rooms : {K : Type 0} (c c' : Contents K) → length c'.noisy ≡ length c.noisy → length c'.marks ≡ length c.marks
    → length c'.numerators ≡ length c.numerators → length c'.work ≡ length c.work → rooms c' ≡ rooms c
unfolding rooms-of
same-rooms c c' p q r s = λ i. rooms-of (p i) (q i) (r i) (s i)
