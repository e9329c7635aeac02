-- `text_pieces::word` meets its contract: the word is in front, and is stripped. Assumes nothing.
use Rattle.std.proofs.lemmas.Bool.Decides.{Decides-eqb}
use Rattle.std.proofs.lemmas.Slice.Eq.{strip_prefix_is}
use Rattle.text_pieces.proofs.Words.{word_told}
use Rattle.text_pieces.proofs.word.Goals as goal

pub returns : goal.returns
returns c = word_told _ _ _ (strip_prefix_is Decides-eqb c.args.text.now c.args.key.now c.strip_prefix.result c.strip_prefix.ensures.cases)
