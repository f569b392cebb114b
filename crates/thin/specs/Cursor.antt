-- Where a run leaves the caller's place and quantiser; where one call leaves them is `cursor_by` of macroblock.
-- Assumes nothing.
use Rattle.state.specs.declared.Cursor.{Cursor}
use Rattle.run.specs.declared.Report.{Report}

abbrev pub cursor_of : Report → Cursor
cursor_of report = record { place = report.place; quantiser = report.quantiser }
