-- Maps that settle as steady ones stand for their states, in the same order.
use Rattle.std.proofs.Common.{◌≡◌, List, [], ◌∷◌, ◌++◌, refl, ap, append_assoc, sym, ◌∙◌}
use Rattle.gob_device.specs.Disk.{Files, EachOf, Rises}
use Rattle.gob_recovery.specs.Settle.{SettlesAs}
use Rattle.gob_history.specs.Sound.{AllRecoverTo}
use Rattle.gob_history.specs.Laws.{RisingMapsRecover}
use Rattle.gob_history.proofs.Stands.{standing}
use Rattle.gob_history.proofs.Along.{each_append}

each_weaker : (P Q : Files → Type 0) → ((m : Files) → P m → Q m) → (ms : List Files) → EachOf P ms → EachOf Q ms
each_weaker P Q f [] each = tt
each_weaker P Q f (m ∷ ms) each = (f m each.0, each_weaker P Q f ms each.1)

pub rises_stand : RisingMapsRecover
unfolding Rises
rises_stand job archive [] [] maps all r = r
rises_stand job archive [] (m ∷ ms) maps all r = absurd all
rises_stand job archive (o ∷ os) [] maps all r = absurd all
rises_stand job archive (o ∷ os) (m ∷ ms) maps all r = (
  r.0,
  r.1,
  r.2,
  each_weaker (SettlesAs job m) (AllRecoverTo job archive o) (λ k s. standing job archive o m k all.0 s) r.0 r.3,
  rises_stand job archive os ms r.1 all.1 r.4,
)

-- maps that rise up to a member, and then others that rise from it, rise along both
pub rises_on : {X : Type 0} (P : X → Files → Type 0) (xs : List X) (x : X) (ys : List X) (ms ns : List Files)
    → Rises P (xs ++ x ∷ []) ms → Rises P (x ∷ ys) ns → Rises P (xs ++ x ∷ ys) (ms ++ ns)
unfolding Rises
rises_on P [] x ys ms ns a b = (
  r ++ b.0,
  b.1,
  ap (λ z. z ++ ns) whole ∙ (ap (λ z. r ++ z) b.2 ∙ sym (append_assoc r b.0 b.1)),
  each_append (P x) r b.0 a.3 b.3,
  b.4,
)
  where
    r : List Files
    r = a.0

    whole : ms ≡ r
    whole = a.2 ∙ (ap (λ z. a.0 ++ z) a.4 ∙ nothing_more a.0)
      where
        nothing_more : (zs : List Files) → zs ++ [] ≡ zs
        nothing_more [] = refl
        nothing_more (z ∷ zs) = ap (λ t. z ∷ t) (nothing_more zs)
rises_on P (z ∷ xs) x ys ms ns a b = (
  a.0,
  a.1 ++ ns,
  ap (λ t. t ++ ns) a.2 ∙ append_assoc a.0 a.1 ns,
  a.3,
  rises_on P xs x ys a.1 ns a.4 b,
)
