-- The record that a function is given: contracts of inner functions.
-- Assumes nothing.
use Rattle.record.specs.Record.{Record}
use Rattle.record.specs.InnerRecord.{record_of}
use Rattle.apply.specs.declared.Coded.{Coded}

abbrev pub record_given : Coded → Record
record_given coded = record_of coded.head coded.vectors.now coded.levels.now
