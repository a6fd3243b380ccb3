use Rattle.gob_io.proofs.Listed.{listed_before, listed_behind}
use Rattle.gob_io.proofs.listing.may_precede.Goals as goal

pub returns-then-is_entry : goal.returns-then-is_entry
returns-then-is_entry c = (
  λ both. listed_before _ _ (c.is_entry.ensures.0 c.if-is_entry.true) (c.is_below.ensures.0 both.0) both.1,
  λ listed. let parts = listed_behind _ _ listed in (c.is_below.ensures.1 parts.0.1, parts.1),
)

pub returns-else-is_entry : goal.returns-else-is_entry
returns-else-is_entry c = (
  λ both. listed_before _ _ (c.is_entry.ensures.0 both.0) (let is = both.0 in let off = c.if-is_entry.false in cc)
      both.1,
  λ listed. let parts = listed_behind _ _ listed in (c.is_entry.ensures.1 parts.0.0, parts.1),
)
