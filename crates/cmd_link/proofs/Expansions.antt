-- What is expanded, call by call.
use Rattle.std.proofs.Common.{◌≡◌, ◌+◌, ◌<◌, List, [], ◌++◌, length, Result, Ok, Err, refl, sym, ap, ◌∙◌, subst, arith, append_assoc, length-append}
use Rattle.std.proofs.lemmas.List.{append-nil}
use Rattle.book_link.specs.declared.event.Event.{Event}
use Rattle.book_link.specs.Worlds.{Setup}
use Rattle.book_cmd_link.specs.TimedRuns.{most_events}
use Rattle.book_cmd_link.specs.TimedRuns.{Expanded, Progress, before}
use Rattle.cmd_link.specs.declared.timed_link.Link.{Link}
use Rattle.cmd_link.specs.declared.unfinished.Unfinished.{Unfinished}
use Rattle.cmd_link.specs.declared.unfinished.Unfinished.TheVariants as unfinished
use Rattle.cmd_link.specs.Links.{Does, Makes, Reaches, Stands, progress}

-- one expansion after another
abbrev pub chained : Makes → Makes → Makes
chained f g setup p = let x = f setup p in before x.events (g setup x.progress)

-- on the links that a link stands for, one expansion is another
pub record Same (f g : Makes) (l : Link) : Type 0 where
  pub same : (setup : Setup) (past : List Event) → Stands l setup past → f setup (progress l setup past) ≡ g setup (progress l setup past)

-- of the whole expansion some events came about, and what is left is to be expanded
pub record Going (whole rest : Makes) (first now : Link) (setup : Setup) (past : List Event) : Type 0 where
  pub mid : List Event
  pub stands : Stands now setup (past ++ mid)
  pub goes : before mid (rest setup (progress now setup (past ++ mid))) ≡ whole setup (progress first setup past)

-- the same, of each link that the first one stood for
pub record Left (whole rest : Makes) (first now : Link) : Type 0 where
  pub going : (setup : Setup) (past : List Event) → Stands first setup past → Going whole rest first now setup past

before_none : (x : Expanded) → before [] x ≡ x
before_none x = refl

before_both : (a b : List Event) (x : Expanded) → before (a ++ b) x ≡ before a (before b x)
before_both a b x = ap (λ (es : List Event). record { events = es; progress = x.progress }) (append_assoc a b x.events)

-- at the beginning all is left
pub all_left : (whole : Makes) (l : Link) → Left whole whole l l
all_left whole l = record {
  going = λ setup past h.
      let none : past ≡ past ++ [] = sym (append-nil past) in
      record {
        mid = [];
        stands = subst (λ (es : List Event). Stands l setup es) none h;
        goes = ap (λ (es : List Event). whole setup (progress l setup es)) (append-nil past);
      };
}

-- what came about of an expansion on a link
going_on : (whole rest f g : Makes) (first now next : Link) (setup : Setup) (past : List Event) → Going whole rest first now setup past
    → Same rest (chained f g) now → Does f now next (Ok tt) → Going whole g first next setup past
going_on whole rest f g first now next setup past s same did =
    let here = past ++ s.mid in
    let p = progress now setup here in
    let x = f setup p in
    let r = did setup here s.stands in
    let mid = s.mid ++ x.events in
    let place : here ++ x.events ≡ past ++ mid = append_assoc past s.mid x.events in
    let there : progress next setup (past ++ mid) ≡ x.progress = ap (λ (es : List Event). progress next setup es) (sym place) ∙ r.progress_is in
    let left : g setup (progress next setup (past ++ mid)) ≡ g setup x.progress = ap (g setup) there in
    record {
      mid = mid;
      stands = subst (λ (es : List Event). Stands next setup es) place r.stands;
      goes = ap (before mid) left ∙ before_both s.mid x.events (g setup x.progress) ∙ ap (before s.mid) (sym (same.same setup here s.stands)) ∙ s.goes;
    }

-- one more call came about
pub one_more : (whole rest f g : Makes) (first now next : Link) → Left whole rest first now → Same rest (chained f g) now → Does f now next (Ok tt)
    → Left whole g first next
one_more whole rest f g first now next l same did = record {
  going = λ setup past h.
      going_on whole rest f g first now next setup past (l.going setup past h) same did;
}

ended : (whole rest : Makes) (first now next : Link) (setup : Setup) (past : List Event) → Going whole rest first now setup past
    → Does rest now next (Ok tt) → let x = whole setup (progress first setup past) in Reaches next setup (past ++ x.events) x.progress
ended whole rest first now next setup past s did =
    let here = past ++ s.mid in
    let y = rest setup (progress now setup here) in
    let r = did setup here s.stands in
    let place : here ++ y.events ≡ past ++ (s.mid ++ y.events) = append_assoc past s.mid y.events in
    let moved : Reaches next setup (past ++ (s.mid ++ y.events)) y.progress = subst (λ (es : List Event). Reaches next setup es y.progress) place r in
    subst (λ (x : Expanded). Reaches next setup (past ++ x.events) x.progress) s.goes moved

too_many : (whole rest : Makes) (first now next : Link) (setup : Setup) (past : List Event) → Going whole rest first now setup past
    → Does rest now next (Err unfinished.TooMany) → most_events < length (past ++ (whole setup (progress first setup past)).events)
too_many whole rest first now next setup past s did =
    let here = past ++ s.mid in
    let y = rest setup (progress now setup here) in
    let place : here ++ y.events ≡ past ++ (s.mid ++ y.events) = append_assoc past s.mid y.events in
    let more : most_events < length (past ++ (s.mid ++ y.events)) = subst (λ (es : List Event). most_events < length es) place (did setup here s.stands) in
    subst (λ (x : Expanded). most_events < length (past ++ x.events)) s.goes more

-- what is left may be told in other words
pub left_as : (whole rest other : Makes) (first now : Link) → Left whole rest first now → Same rest other now → Left whole other first now
left_as whole rest other first now l same = record {
  going = λ setup past h.
      let s = l.going setup past h in
      let here = past ++ s.mid in
      record {
        mid = s.mid;
        stands = s.stands;
        goes = ap (before s.mid) (sym (same.same setup here s.stands)) ∙ s.goes;
      };
}

-- the last call is the whole answer
pub last_call : (whole rest : Makes) (first now next : Link) (r : Result (Unit {0}) Unfinished) → Left whole rest first now → Does rest now next r
    → Does whole first next r
last_call whole rest first now next (Ok done) l did = λ setup past h. ended whole rest first now next setup past (l.going setup past h) did
last_call whole rest first now next (Err unfinished.TooMany) l did = λ setup past h. too_many whole rest first now next setup past (l.going setup past h) did
last_call whole rest first now next (Err (unfinished.Memory error)) l did = tt

-- nothing is left
abbrev pub nothing : Makes
nothing setup p = record { events = []; progress = p }

does_nothing : (l : Link) → Does nothing l l (Ok tt)
does_nothing l = λ setup past h.
    record {
      stands = subst (λ (es : List Event). Stands l setup es) (sym (append-nil past)) h;
      progress_is = ap (λ (es : List Event). progress l setup es) (append-nil past);
    }

same_does : (f g : Makes) (now next : Link) → Same f g now → Does g now next (Ok tt) → Does f now next (Ok tt)
same_does f g now next same did = λ setup past h.
    subst (λ (x : Expanded). Reaches next setup (past ++ x.events) x.progress) (sym (same.same setup past h)) (did setup past h)

-- one call is the whole answer
pub does_as : (whole f : Makes) (l next : Link) (r : Result (Unit {0}) Unfinished) → Same whole f l → Does f l next r → Does whole l next r
does_as whole f l next r same did = last_call whole f l l next r (left_as whole whole f l l (all_left whole l) same) did

-- nothing is left
pub all_done : (whole rest : Makes) (first now : Link) → Left whole rest first now → Same rest nothing now → Does whole first now (Ok tt)
all_done whole rest first now l same =
    last_call whole rest first now now (Ok tt) l (same_does rest nothing now now same (does_nothing now))

-- the first of two expansions isn't the longer one
first_is_less : (f g : Makes) (setup : Setup) (p : Progress) (past : List Event) → most_events < length (past ++ (f setup p).events)
    → most_events < length (past ++ (chained f g setup p).events)
first_is_less f g setup p past h =
    let x = f setup p in
    let y = g setup x.progress in
    let a : length (past ++ x.events) ≡ length past + length x.events = length-append past x.events in
    let b : length (past ++ (x.events ++ y.events)) ≡ length past + length (x.events ++ y.events) = length-append past (x.events ++ y.events) in
    let c : length (x.events ++ y.events) ≡ length x.events + length y.events = length-append x.events y.events in
    omega arith

same_stops : (rest f g : Makes) (now next : Link) (s : Unfinished) → Same rest (chained f g) now → Does f now next (Err s) → Does rest now next (Err s)
same_stops rest f g now next (unfinished.Memory error) same did = tt
same_stops rest f g now next unfinished.TooMany same did = λ setup past h.
    let p = progress now setup past in
    subst (λ (x : Expanded). most_events < length (past ++ x.events)) (sym (same.same setup past h)) (first_is_less f g setup p past (did setup past h))

-- one more call stopped
pub stopped_at : (whole rest f g : Makes) (first now next : Link) (s : Unfinished) → Left whole rest first now → Same rest (chained f g) now → Does f now next (Err s)
    → Does whole first next (Err s)
stopped_at whole rest f g first now next s l same did =
    last_call whole rest first now next (Err s) l (same_stops rest f g now next s same did)
