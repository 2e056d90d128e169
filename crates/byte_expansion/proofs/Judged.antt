-- How many words bytes hold, under a name that the check applies by itself at the returns of `judge_bytes`. Assumes nothing.
use Rattle.wire.proofs.Words.{length-in_words}

pub ruleset judged = (length-in_words)
