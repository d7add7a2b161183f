mod AllLives
mod FewCalls
mod FileReplies
mod Lives
mod Replies
mod ScriptFits
