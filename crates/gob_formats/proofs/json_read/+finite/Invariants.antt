use Rattle.std.proofs.Common.{◌≡◌, drop, length}
use Rattle.json.specs.Tree.{json_tokens, items_tokens, members_tokens}
use Rattle.json.specs.Value.{value_view, items_view, members_view}
use Rattle.gob_formats.specs.Objects.{items_finite, members_finite}
use Rattle.gob_formats.proofs.json_read.+finite.Given as goal

abbrev pub decreases-is_finite : goal.decreases-is_finite
decreases-is_finite l = length (json_tokens (value_view l.tree.now))

abbrev pub decreases-are_items_finite : goal.decreases-are_items_finite
decreases-are_items_finite l = length (items_tokens (items_view l.items.now.items))

abbrev pub decreases-are_members_finite : goal.decreases-are_members_finite
decreases-are_members_finite l = length (members_tokens (members_view l.members.now.items))

abbrev pub invariant-are_items_finite-loop-item : goal.invariant-are_items_finite-loop-item
invariant-are_items_finite-loop-item l =
    items_finite (items_view (drop l.item-index l.item-items)) ≡ items_finite (items_view l.item-items)

abbrev pub invariant-are_members_finite-loop-member : goal.invariant-are_members_finite-loop-member
invariant-are_members_finite-loop-member l =
    members_finite (members_view (drop l.member-index l.member-items)) ≡ members_finite (members_view l.member-items)
