use Rattle.rsx_link.proofs.Keeps.{starts}
use Rattle.rsx_link.proofs.link.Link.begin.Goals as goal

pub of_words-requires : goal.of_words-requires
of_words-requires g c = starts
