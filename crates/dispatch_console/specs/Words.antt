-- Defines the words that a line may begin with, beside those of a day without a dispatcher.
use Rattle.std.specs.Prelude.{ℕ, cond, List, Some, None, codes, Option, option_map}
use Rattle.std.specs.Str.{bytes_eq}
use Rattle.dispatch_console.specs.declared.word.CallWord.{CallWord}
use Rattle.dispatch_console.specs.declared.word.CallWord.TheVariants as call
use Rattle.dispatch_console.specs.declared.word.Word.{Word}
use Rattle.dispatch_console.specs.declared.word.Word.TheVariants as word

-- the word of a call that a field is, if it is one
abbrev pub call_word : List ℕ → Option CallWord
call_word field =
    cond (bytes_eq field (codes "clock")) (Some call.Clock)
    (cond (bytes_eq field (codes "join")) (Some call.Join)
    (cond (bytes_eq field (codes "leave")) (Some call.Leave)
    (cond (bytes_eq field (codes "book")) (Some call.Book)
    (cond (bytes_eq field (codes "bound")) (Some call.Bound)
    (cond (bytes_eq field (codes "served")) (Some call.Served)
    (cond (bytes_eq field (codes "cancel")) (Some call.Cancel)
    (cond (bytes_eq field (codes "plan")) (Some call.Plan)
    (cond (bytes_eq field (codes "order")) (Some call.Order)
    None))))))))

-- the word that a field is, if it is one
abbrev pub word_of : List ℕ → Option Word
word_of field =
    cond (bytes_eq field (codes "help")) (Some word.Help)
    (cond (bytes_eq field (codes "nodes")) (Some word.Nodes)
    (cond (bytes_eq field (codes "make")) (Some word.Make)
    (option_map word.Call (call_word field))))
