use Rattle.std.proofs.Common.{rules, ◌≡◌, ℕ, List, length, ap, sym, subst, ◌∙◌, Some}
use Rattle.std.specs.Map.{lookup}
use Rattle.std.specs.Str.{bytes_eq}
use Rattle.file_table.specs.Table.{analysis_at}
use Rattle.library_files.specs.declared.links.FolderLinks.{FolderLinks}
use Rattle.indexmap.specs.IndexMap.{insert_entry}
use Rattle.cache_entries.proofs.FolderCounts.{count_found, counts_put}
use Rattle.cache_entries.specs.Counts.{AreCounts}
use Rattle.cache_entries.specs.Winner.{winners_in}
use Rattle.cache_entries.proofs.counts.count_in.Goals as goal

pub returns-in-Some : goal.returns-in-Some
returns-in-Some c t place links files are =
    let folder = c.as_bytes.result.now in
    let same : folder ≡ place.real = c.as_bytes.ensures ∙ ap (λ (l : FolderLinks). l.folder) links in
    let there : lookup (bytes_eq folder) c.args.counts.now.entries ≡ Some c.in-Some.count.now = search rules in
    let at = subst (λ (path : List ℕ). lookup (bytes_eq path) c.args.counts.now.entries ≡ Some c.in-Some.count.now) same there in
    record {
      count_is = count_found (analysis_at c.args.table.now) t place.real c.args.counts.now.entries c.in-Some.count.now are at;
      counts_are = are;
    }

pub returns : goal.returns
returns c t place links files are =
    let what = analysis_at c.args.table.now in
    let folder = c.in_ok-folder.folder in
    let same : folder ≡ place.real = c.in_ok-folder.ensures ∙ c.as_bytes-2.ensures ∙ ap (λ (l : FolderLinks). l.folder) links in
    let count : c.in_ok-count.count ≡ length (winners_in what t place) = c.in_ok-count.ensures ∙ ap length (c.in_ok-winners.ensures t place links files) in
    let put : c.insert.new.self.entries ≡ insert_entry bytes_eq c.args.counts.now.entries folder c.in_ok-count.count = c.in_ok-insert.ensures.entries in
    let here : c.insert.new.self.entries ≡ insert_entry bytes_eq c.args.counts.now.entries place.real c.in_ok-count.count =
    put ∙ ap (λ (path : List ℕ). insert_entry bytes_eq c.args.counts.now.entries path c.in_ok-count.count) same in
    record {
      count_is = count;
      counts_are = subst (λ counts. AreCounts what t counts) (sym here) (counts_put what t place.real c.args.counts.now.entries c.in_ok-count.count are count);
    }
