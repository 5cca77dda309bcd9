use Rattle.bp_script.proofs.ExportLines.{export_read, export_short, export_whole}
use Rattle.bp_script.proofs.laws.exports_are_read.Goals as goal

pub returns-clause-read : goal.returns-clause-read
returns-clause-read c = λ tree can of_bytes. export_read tree can of_bytes

pub returns-clause-whole : goal.returns-clause-whole
returns-clause-whole c = λ tree can of_bytes. export_whole tree can of_bytes

pub returns-clause-short : goal.returns-clause-short
returns-clause-short c = λ tree can of_bytes. export_short tree can of_bytes
