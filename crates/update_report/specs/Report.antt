-- The report of an update: a line for each finding, grouped by kind, and a last line with numbers.
use Rattle.std.specs.Prelude.{ℕ, List, Option, ◌++◌, drop, flat_map, length, map}
use Rattle.std.specs.List.{zip}
use Rattle.hwcap_dirs.specs.declared.kinds.Place.{Place}
use Rattle.ldso_conf.specs.declared.kinds.ConfReport.{ConfReport}
use Rattle.lib_types.specs.declared.entry.Entry.{Entry}
use Rattle.link_plan.specs.declared.kinds.Mark.{Mark}
use Rattle.link_plan.specs.declared.kinds.Planned.{Planned}
use Rattle.update_report.specs.Lines.{absent_line, blocked_line, conf_line, damaged_line, dangling_line, last_line, line_of_twins, link_line, mixed_line, skip_line}
use Rattle.update_report.specs.declared.kinds.Findings.{Findings}
use Rattle.update_report.specs.declared.kinds.Skipped.{Skipped}

-- what a report says of an image
pub record ReportInput : Type 0 where
  -- the offset at which the auxiliary cache was corrupt when it was loaded
  pub damaged : Option ℕ
  pub conf : List ConfReport
  pub places : List Place
  -- the directories named in the conf file that don't exist
  pub absent : List (List ℕ)
  pub plan : List Planned
  pub blocked : List Mark
  pub mixed : List Mark
  pub skips : List Skipped
  pub dangling : List (List ℕ)
  pub entries : List Entry
  -- the number of library files that were opened
  pub opened : ℕ

abbrev pub findings_of : Findings → ReportInput
findings_of findings = record {
  damaged = findings.damaged;
  conf = findings.conf.now;
  places = findings.dirs.now.places;
  absent = findings.dirs.now.absent;
  plan = findings.plan.now;
  blocked = findings.blocked.now;
  mixed = findings.mixed.now;
  skips = findings.skips.now;
  dangling = findings.dangling.now;
  entries = findings.entries.now;
  opened = findings.opened;
}

abbrev pub sonames_of : List Entry → List (List ℕ)
sonames_of entries = map (λ entry. entry.soname) entries

-- the pairs of consecutive sonames
abbrev pub neighbours : List (List ℕ) → List (List ℕ × List ℕ)
neighbours sonames = zip sonames (drop 1 sonames)

abbrev pub twin_lines : List (List ℕ) → List ℕ
twin_lines sonames = flat_map line_of_twins (neighbours sonames)

unfoldable pub report_text : ReportInput → List ℕ
report_text info =
    damaged_line info.damaged
    ++ flat_map conf_line info.conf
    ++ flat_map absent_line info.absent
    ++ flat_map (link_line info.places) info.plan
    ++ flat_map (blocked_line info.places) info.blocked
    ++ flat_map (mixed_line info.places) info.mixed
    ++ flat_map skip_line info.skips
    ++ flat_map dangling_line info.dangling
    ++ twin_lines (sonames_of info.entries)
    ++ last_line (length info.entries) (length info.plan) info.opened
