-- What one call, and what two calls of one stretch, added to a volume that tells.
use Rattle.std.proofs.Common.{◌≡◌, List, refl, sym, subst, ◌∙◌, Some, None}
use Rattle.std.specs.declared.option.Option.{Option}
use Rattle.std.proofs.lemmas.List.{append_cancel_left}
use Rattle.gob_device.specs.Disk.{AddsMaps, Both, Disk, Files, Went}

-- where the volume tells, it tells afterwards too
pub went_of : (Q : Files → List Files → Type 0) (old new : Option Disk) (d : Disk) → AddsMaps Q old new → old ≡ Some d
    → (e : Disk) × (new ≡ Some e) × Went Q d e
went_of Q old new d adds is = from new (subst (λ o. Both (Went Q) o new) is adds.told)
  where
    from : (n : Option Disk) → Both (Went Q) (Some d) n → (e : Disk) × (n ≡ Some e) × Went Q d e
    from None both = absurd both
    from (Some e) both = (e, refl, both)

went_both : (P Q : Files → List Files → Type 0) (d e : Disk) → Went P d e → Went Q d e
    → Went (λ m added. P m added × Q m added) d e
went_both P Q d e p q =
    let same : q.added ≡ p.added = append_cancel_left d.trail q.added p.added (sym q.trail ∙ p.trail) in
    record {
      added = p.added;
      trail = p.trail;
      stands = p.stands;
      holds = (p.holds, subst (λ a. Q d.files a) same q.holds);
    }

-- what is said twice of the maps that a call added holds of the same maps
pub adds_both : (P Q : Files → List Files → Type 0) (old new : Option Disk) → AddsMaps P old new → AddsMaps Q old new
    → AddsMaps (λ m added. P m added × Q m added) old new
adds_both P Q old new a b = record { told = both old new a.told b.told }
  where
    both : (o n : Option Disk) → Both (Went P) o n → Both (Went Q) o n
        → Both (Went (λ m added. P m added × Q m added)) o n
    both None None p q = tt
    both None (Some e) p q = p
    both (Some d) None p q = p
    both (Some d) (Some e) p q = went_both P Q d e p q
