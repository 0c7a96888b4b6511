-- What a line of a checker says is what the definitions say of its segment.
use Rattle.std.proofs.Common.{◌≡◌, Bool, true, false, not, refl, ap, ◌∙◌, sym, Ok, Err, Option, Some, None}
use Rattle.std.specs.Prelude.{◌&&◌}
use Rattle.book_segments.specs.Segments.{Segment, has, SYN}
use Rattle.book_cmd_check.specs.declared.checksum.Checksum.{Checksum}
use Rattle.book_cmd_check.specs.Captures.{Saying, Judged}
use Rattle.book_endpoint.specs.Verdicts.{Finding, Judgement}
use Rattle.book_endpoint.specs.declared.passed.Passed.{Passed}
use Rattle.ao_check.specs.Verdicts.{Verdict}
use Rattle.book_endpoint.specs.declared.refusal.Refusal.TheVariants.{NoAo, TwoAo, WithMd5, NoTuple, Expired, MacLength, NoContext, Range, BadMac}
use Rattle.book_sessions.specs.Glimpses.{is_judged, is_refused, is_unknown, told_anew}
use Rattle.book_sessions.specs.Laps.{is_searched}
use Rattle.book_sessions.specs.Listening.{outcome_of, pass_of, unconfirmed_of}
use Rattle.capture_check.specs.declared.answer.CheckLine.{CheckLine}
use Rattle.capture_check.specs.declared.answer.CheckLine.TheVariants as line
use Rattle.capture_check.specs.Answers.{IsFound, IsJudged, Says}
use Rattle.capture_listener.specs.Lines.{is_readable, line_anew, says_judged, says_refused, says_unknown, says_searched, by_verdict, by_unconfirmed, by_line, by_seen_line, pass_by_line, pass_by_verdict}

-- a verdict is a refusal where its judgement is
verdict_refused : (v : Verdict) (checksum : Checksum) (j : Judgement) → IsJudged v j → says_refused (line.Verdict v checksum) ≡ is_refused (Judged j checksum)
verdict_refused (Ok p) checksum j e = let is = e.1 in rw is refl
verdict_refused (Err why) checksum j e = rw e refl

pub refused_told : (l : CheckLine) (s : Saying) → Says l s → says_refused l ≡ is_refused s
refused_told (line.Bad fault) s e = rw e refl
refused_told line.UnknownNode s e = rw e refl
refused_told (line.Verdict v checksum) s (j, e, t) = rw e (verdict_refused v checksum j t)
refused_told (line.Full checksum) s e = rw e refl

pub judged_told : (l : CheckLine) (s : Saying) → Says l s → says_judged l ≡ is_judged s
judged_told (line.Bad fault) s e = rw e refl
judged_told line.UnknownNode s e = rw e refl
judged_told (line.Verdict v checksum) s (j, e, t) = rw e refl
judged_told (line.Full checksum) s e = rw e refl

-- a verdict knows no context where its judgement knows none
verdict_unknown : (v : Verdict) (checksum : Checksum) (j : Judgement) → IsJudged v j → says_unknown (line.Verdict v checksum) ≡ is_unknown (Judged j checksum)
verdict_unknown (Ok p) checksum j e = let is = e.1 in rw is refl
verdict_unknown (Err NoAo) checksum j e = rw e refl
verdict_unknown (Err TwoAo) checksum j e = rw e refl
verdict_unknown (Err WithMd5) checksum j e = rw e refl
verdict_unknown (Err NoTuple) checksum j e = rw e refl
verdict_unknown (Err Expired) checksum j e = rw e refl
verdict_unknown (Err MacLength) checksum j e = rw e refl
verdict_unknown (Err NoContext) checksum j e = rw e refl
verdict_unknown (Err Range) checksum j e = rw e refl
verdict_unknown (Err BadMac) checksum j e = rw e refl

pub unknown_told : (l : CheckLine) (s : Saying) → Says l s → says_unknown l ≡ is_unknown s
unknown_told (line.Bad fault) s e = rw e refl
unknown_told line.UnknownNode s e = rw e refl
unknown_told (line.Verdict v checksum) s (j, e, t) = rw e (verdict_unknown v checksum j t)
unknown_told (line.Full checksum) s e = rw e refl

-- a verdict is searched where its judgement is
verdict_searched : (v : Verdict) (checksum : Checksum) (j : Judgement) → IsJudged v j → (d : Segment) → (says_searched (line.Verdict v checksum) && not (has SYN d)) ≡ is_searched d (Judged j checksum)
verdict_searched (Ok p) checksum j e d = let is = e.1 in rw is refl
verdict_searched (Err NoAo) checksum j e d = rw e refl
verdict_searched (Err TwoAo) checksum j e d = rw e refl
verdict_searched (Err WithMd5) checksum j e d = rw e refl
verdict_searched (Err NoTuple) checksum j e d = rw e refl
verdict_searched (Err Expired) checksum j e d = rw e refl
verdict_searched (Err MacLength) checksum j e d = rw e refl
verdict_searched (Err NoContext) checksum j e d = rw e refl
verdict_searched (Err Range) checksum j e d = rw e refl
verdict_searched (Err BadMac) checksum j e d = rw e refl

pub searched_told : (l : CheckLine) (s : Saying) (d : Segment) → Says l s → (says_searched l && not (has SYN d)) ≡ is_searched d s
searched_told (line.Bad fault) s d e = rw e refl
searched_told line.UnknownNode s d e = rw e refl
searched_told (line.Verdict v checksum) s d (j, e, t) = rw e (verdict_searched v checksum j t d)
searched_told (line.Full checksum) s d e = rw e refl

-- what comes of a verdict is what comes of its judgement
verdict_outcome : (v : Verdict) (checksum : Checksum) (j : Judgement) → IsJudged v j → outcome_of (Judged j checksum) ≡ Ok (by_verdict v)
verdict_outcome (Ok p) checksum j e = let is = e.1 in rw is refl
verdict_outcome (Err why) checksum j e = rw e refl

pub outcome_told : (l : CheckLine) (s : Saying) → Says l s → is_readable s ≡ true → outcome_of s ≡ Ok (by_line l)
outcome_told (line.Bad fault) s e r = let no : is_readable s ≡ false = rw e refl in absurd (cc)
outcome_told line.UnknownNode s e r = rw e refl
outcome_told (line.Verdict v checksum) s (j, e, t) r = rw e (verdict_outcome v checksum j t)
outcome_told (line.Full checksum) s e r = rw e refl

-- the same under numbers that were only seen
verdict_unconfirmed : (v : Verdict) (checksum : Checksum) (j : Judgement) → IsJudged v j → unconfirmed_of (Judged j checksum) ≡ Ok (by_unconfirmed v)
verdict_unconfirmed (Ok p) checksum j e = let is = e.1 in rw is refl
verdict_unconfirmed (Err NoAo) checksum j e = rw e refl
verdict_unconfirmed (Err TwoAo) checksum j e = rw e refl
verdict_unconfirmed (Err WithMd5) checksum j e = rw e refl
verdict_unconfirmed (Err NoTuple) checksum j e = rw e refl
verdict_unconfirmed (Err Expired) checksum j e = rw e refl
verdict_unconfirmed (Err MacLength) checksum j e = rw e refl
verdict_unconfirmed (Err NoContext) checksum j e = rw e refl
verdict_unconfirmed (Err Range) checksum j e = rw e refl
verdict_unconfirmed (Err BadMac) checksum j e = rw e refl

pub unconfirmed_told : (l : CheckLine) (s : Saying) → Says l s → is_readable s ≡ true → unconfirmed_of s ≡ Ok (by_seen_line l)
unconfirmed_told (line.Bad fault) s e r = let no : is_readable s ≡ false = rw e refl in absurd (cc)
unconfirmed_told line.UnknownNode s e r = rw e refl
unconfirmed_told (line.Verdict v checksum) s (j, e, t) r = rw e (verdict_unconfirmed v checksum j t)
unconfirmed_told (line.Full checksum) s e r = rw e refl

-- a segment without context is refused
pub unknown_refused : (l : CheckLine) → says_unknown l ≡ true → says_refused l ≡ true
unknown_refused (line.Bad fault) e = absurd (cc)
unknown_refused line.UnknownNode e = absurd (cc)
unknown_refused (line.Full checksum) e = absurd (cc)
unknown_refused (line.Verdict (Ok p) checksum) e = absurd (cc)
unknown_refused (line.Verdict (Err NoAo) checksum) e = absurd (cc)
unknown_refused (line.Verdict (Err TwoAo) checksum) e = absurd (cc)
unknown_refused (line.Verdict (Err WithMd5) checksum) e = absurd (cc)
unknown_refused (line.Verdict (Err NoTuple) checksum) e = absurd (cc)
unknown_refused (line.Verdict (Err Expired) checksum) e = absurd (cc)
unknown_refused (line.Verdict (Err MacLength) checksum) e = absurd (cc)
unknown_refused (line.Verdict (Err NoContext) checksum) e = refl
unknown_refused (line.Verdict (Err Range) checksum) e = absurd (cc)
unknown_refused (line.Verdict (Err BadMac) checksum) e = absurd (cc)

-- ---- what was found of a segment that passes

-- what is told of a segment that passed is what was found of it; nothing of others
abbrev pub TellsPass : Option Passed → Option Finding → Type 0
TellsPass None found = found ≡ None
TellsPass (Some p) found = (entry : Finding) × (found ≡ Some entry) × IsFound p entry

pass_judged : (v : Verdict) (j : Judgement) (checksum : Checksum) → IsJudged v j → TellsPass (pass_by_verdict v) (pass_of (Judged j checksum))
pass_judged (Ok p) j checksum (entry, is, F) = (entry, rw is refl, F)
pass_judged (Err why) j checksum e = rw e refl

pub pass_told : (l : CheckLine) (s : Saying) → Says l s → TellsPass (pass_by_line l) (pass_of s)
pass_told (line.Bad fault) s e = rw e refl
pass_told line.UnknownNode s e = rw e refl
pass_told (line.Verdict v checksum) s (j, e, t) = rw e (pass_judged v j checksum t)
pass_told (line.Full checksum) s e = rw e refl

-- ---- where the sockets of a segment were opened anew

-- a verdict says anew what its judgement does
verdict_told : (v : Verdict) (checksum : Checksum) (j : Judgement) → IsJudged v j → Says (line_anew true (line.Verdict v checksum)) (told_anew true (Judged j checksum))
verdict_told (Ok p) checksum j (entry, is, F) = (Ok entry, rw is refl, (entry, refl, F))
verdict_told (Err NoAo) checksum j e = (Err NoAo, rw e refl, refl)
verdict_told (Err TwoAo) checksum j e = (Err TwoAo, rw e refl, refl)
verdict_told (Err WithMd5) checksum j e = (Err WithMd5, rw e refl, refl)
verdict_told (Err NoTuple) checksum j e = (Err NoTuple, rw e refl, refl)
verdict_told (Err Expired) checksum j e = (Err Expired, rw e refl, refl)
verdict_told (Err MacLength) checksum j e = (Err MacLength, rw e refl, refl)
verdict_told (Err NoContext) checksum j e = (Err NoContext, rw e refl, refl)
verdict_told (Err Range) checksum j e = (Err NoContext, rw e refl, refl)
verdict_told (Err BadMac) checksum j e = (Err NoContext, rw e refl, refl)

line_told : (anew : Bool) (l : CheckLine) (s : Saying) → Says l s → Says (line_anew anew l) (told_anew anew s)
line_told false l s e = e
line_told true (line.Bad fault) s e = rw e refl
line_told true line.UnknownNode s e = rw e refl
line_told true (line.Verdict v checksum) s (j, e, t) = rw e (verdict_told v checksum j t)
line_told true (line.Full checksum) s e = rw e refl

-- what is told anew of a line is what is told of what it says
pub anew_told : (b anew : Bool) (l told : CheckLine) (s : Saying) → b ≡ anew → told ≡ line_anew b l → Says l s → Says told (told_anew anew s)
anew_told b anew l told s e f h = rw (f, e) (line_told anew l s h)

line_still : (anew : Bool) (l : CheckLine) → says_refused (line_anew anew l) ≡ says_refused l
line_still false l = refl
line_still true (line.Bad fault) = refl
line_still true line.UnknownNode = refl
line_still true (line.Verdict (Ok p) checksum) = refl
line_still true (line.Verdict (Err why) checksum) = refl
line_still true (line.Full checksum) = refl

-- a line that is told anew as a refusal is one
pub anew_refused : (anew : Bool) (l told : CheckLine) → told ≡ line_anew anew l → says_refused told ≡ true → says_refused l ≡ true
anew_refused anew l told is refused = sym (ap says_refused is ∙ line_still anew l) ∙ refused
