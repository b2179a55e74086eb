-- A buffer that is longer than any publication is as good as any longer one.
use Rattle.std.proofs.Common.{◌≡◌, ℕ, ◌<◌, ◌≤◌, min, Bool, true, false, ltb, ◌⊎◌, List, [], ◌∷◌, ◌++◌, ℤ, Some, None, Option, sym, refl, ap, ◌∙◌, inl, inr, arith}
use Rattle.std.proofs.lemmas.Nat.{mul-le}
use Rattle.std.proofs.lemmas.Bool.{cases_lt, lt-ltb, le-ltb}
use Rattle.algebra.specs.Row.{Row}
use Rattle.denial.specs.Rules.{rule, first}
use Rattle.denial.specs.declared.reason.Reason.TheVariants.{BufferTooShort}
use Rattle.formats.specs.Publication.{publication_length}
use Rattle.history.specs.Contents.{Contents, rooms}
use Rattle.history.specs.Events.{Event, event, publish, shape_after, facts_after, Represents}
use Rattle.history.specs.Facts.{Form, nodes_of}
use Rattle.history.specs.Refusals.{laid_rules, released_rule, publish_rules}
use Rattle.history.specs.Replies.{Reply, done, refused, seen, printed, accepts, Right, Stepped}
use Rattle.history.proofs.Shaped.{laid-shapely}

enough : (room most needed : ℕ) → needed ≤ most → ltb (min room most) needed ≡ ltb room needed
enough room most needed h = by (cases_lt room needed)
  where
    by : (room < needed) ⊎ (needed ≤ room) → ltb (min room most) needed ≡ ltb room needed
    by (inl l) = lt-ltb (min room most) needed (omega arith) ∙ sym (lt-ltb room needed l)
    by (inr l) = le-ltb (min room most) needed (omega arith) ∙ sym (le-ltb room needed l)

module _ {K : Type 0} (row : K → Row) (k w : ℕ) (dot : Row → Row → ℤ) (c c' : Contents K) (narrow : w ≤ 8) (m room : ℕ) (e : m ≡ min room 65488) where
  few : (h : List Event) (o : Option Form) → Represents row w h c → shape_after h ≡ o → publication_length w (nodes_of o) ≤ 65488
  few h None p q = omega (arith, mul-le w 0 8 1023 narrow (omega arith))
  few h (Some f) p q = omega (arith, mul-le w (nodes_of (Some f)) 8 1023 narrow (laid-shapely c.state (rooms c) f (p.shape ∙ q)).4)

  same-rules : (h : List Event) → Represents row w h c → first (publish_rules w (facts_after w (rooms c) h) room) ≡ first (publish_rules w (facts_after w (rooms c) h) m)
  same-rules h p =
      let needed = publication_length w (nodes_of (shape_after h)) in
      sym (ap (λ b. first (laid_rules (facts_after w (rooms c) h) ++ released_rule (facts_after w (rooms c) h) ∷ rule b BufferTooShort needed ∷ [])) (ap (λ n. ltb n needed) e ∙ enough room 65488 needed (few h (shape_after h) p refl)))

  right : (h : List Event) → Represents row w h c → (o : Reply) → Right k w dot (rooms c) h (publish m) o → Right k w dot (rooms c) h (publish room) o
  right h p done q = (same-rules h p ∙ q.0, q.1)
  right h p (refused d) q = same-rules h p ∙ q
  right h p (seen x d) q = (same-rules h p ∙ q.0, q.1)
  right h p (printed out) q = (same-rules h p ∙ q.0, q.1)

  kept : (b : Bool) (h : List Event) → Represents row w (event (publish m) b ∷ h) c' → Represents row w (event (publish room) b ∷ h) c'
  kept true h p = record { shape = p.shape; counts = p.counts; released = p.released; full = p.full; table = p.table }
  kept false h p = record { shape = p.shape; counts = p.counts; released = p.released; full = p.full; table = p.table }

  pub wider : (o : Reply) → Stepped row k w dot c (publish m) o c' → Stepped row k w dot c (publish room) o c'
  wider o s = record { held = s.held; right = λ h p. right h p o (s.right h p); kept = λ h p. kept (accepts o) h (s.kept h p) }
