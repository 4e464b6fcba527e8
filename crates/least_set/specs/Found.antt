-- What a log gives for an index.
use Rattle.least_set.specs.declared.logs.Found.{Found}
use Rattle.least_set.specs.declared.logs.Found.TheVariants.{Held, Made}

-- The member, whether it is held or made.
abbrev pub found_member : {M : Type 0} → Found M → M
found_member (Held member) = member.now
found_member (Made member) = member
