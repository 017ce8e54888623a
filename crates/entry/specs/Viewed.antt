-- An entry as rows 11 to 15 and 0 see it.
use Rattle.rows.specs.Connections.{connections}
use Rattle.rows.specs.Rows as rows
use Rattle.entry.specs.declared.Entry.{Entry}

abbrev pub viewed : Entry → rows.Entry connections
viewed e = record { key = e.key; connection = e.connection }

-- and back
abbrev pub stored : rows.Entry connections → Entry
stored e = record { key = e.key; connection = e.connection }
