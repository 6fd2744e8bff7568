-- What an answered check has.
use Rattle.std.proofs.Common.{sym}
use Rattle.session.proofs.Answered.{open_done}
use Rattle.session.proofs.calls.open_at.Goals as goal

pub clear_journal-requires : goal.clear_journal-requires
clear_journal-requires c = (open_done _ _ _ _ (sym c.in_default.ensures)).space
