-- A field that is read byte by byte is that word.
use Rattle.std.proofs.Common.{codes, sym, ap, rules}
use Rattle.std.proofs.lemmas.Slice.Eq.{text_from_reads}
use Rattle.console.specs.Lines.{word_of}
use Rattle.console.proofs.command.Word.from_bytes.Goals as goal

pub returns-in-table : goal.returns-in-table
returns-in-table c = sym (ap word_of (text_from_reads c.args.field.now (codes "table") (search rules) (search rules)))

pub returns-in-quote : goal.returns-in-quote
returns-in-quote c = sym (ap word_of (text_from_reads c.args.field.now (codes "quote") (search rules) (search rules)))
