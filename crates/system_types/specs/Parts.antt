-- The system of parts.
use Rattle.model_system.specs.System.{System}
use Rattle.system_types.specs.declared.system.SystemParts.{SystemParts}

abbrev pub system_of_parts : SystemParts → System
system_of_parts parts = record { qbytes = parts.qbytes; logs = parts.logs; databases = parts.databases.items; programs = parts.programs.items; codes = parts.codes.items; terminals = parts.terminals.items; screens = parts.screens.items; formats = parts.formats.items; regions = parts.regions.items }
