-- A field that is read byte by byte is that word.
use Rattle.std.proofs.Common.{codes, sym, ap, rules}
use Rattle.std.proofs.lemmas.Slice.Eq.{text_from_reads}
use Rattle.dispatch_console.specs.Words.{call_word}
use Rattle.dispatch_console.proofs.word.CallWord.from_bytes.Goals as goal

pub returns-in-clock : goal.returns-in-clock
returns-in-clock c = sym (ap call_word (text_from_reads c.args.field.now (codes "clock") (search rules) (search rules)))

pub returns-in-join : goal.returns-in-join
returns-in-join c = sym (ap call_word (text_from_reads c.args.field.now (codes "join") (search rules) (search rules)))

pub returns-in-leave : goal.returns-in-leave
returns-in-leave c = sym (ap call_word (text_from_reads c.args.field.now (codes "leave") (search rules) (search rules)))

pub returns-in-book : goal.returns-in-book
returns-in-book c = sym (ap call_word (text_from_reads c.args.field.now (codes "book") (search rules) (search rules)))

pub returns-in-bound : goal.returns-in-bound
returns-in-bound c = sym (ap call_word (text_from_reads c.args.field.now (codes "bound") (search rules) (search rules)))

pub returns-in-served : goal.returns-in-served
returns-in-served c = sym (ap call_word (text_from_reads c.args.field.now (codes "served") (search rules) (search rules)))

pub returns-in-cancel : goal.returns-in-cancel
returns-in-cancel c = sym (ap call_word (text_from_reads c.args.field.now (codes "cancel") (search rules) (search rules)))

pub returns-in-plan : goal.returns-in-plan
returns-in-plan c = sym (ap call_word (text_from_reads c.args.field.now (codes "plan") (search rules) (search rules)))

pub returns-in-order : goal.returns-in-order
returns-in-order c = sym (ap call_word (text_from_reads c.args.field.now (codes "order") (search rules) (search rules)))
