use Rattle.cases.proofs.Stories as stories
use Rattle.cases.proofs.lists.mend_week.Goals as goal

pub returns : goal.returns
returns c = record { late = c.late_week.ensures; mended = c.mended_week.ensures; law = stories.mended }
